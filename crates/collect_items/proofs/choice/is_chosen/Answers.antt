use Rattle.std.proofs.Common.{ℕ, List, Option, ap, ◌∙◌}
use Rattle.std.specs.Prelude.{chars, option_copied}
use Rattle.collect_marks.specs.Names.{keyword_names, mark_names}
use Rattle.py_values.specs.declared.value.Value.{Value}
use Rattle.selection.specs.Exprs.{is_selected}
use Rattle.collect_items.proofs.choice.is_chosen.Goals as goal

pub returns : goal.returns
returns c =
    let o = c.args.options.now in
    let heap = c.args.heap.now in
    let item = c.args.item.now in
    c.is_selected.ensures o c.requires
    ∙ (ap (λ (ks : List (List ℕ)). is_selected o ks c.deref-2.result.now)
    (c.deref.ensures.value
    ∙ (c.in_ok-keywords.ensures
    ∙ (ap (λ (p : List ℕ). keyword_names heap p item.test (option_copied c.as_ref.result) c.items-marks.result.now) (c.in_ok-path.ensures ∙ ap chars c.text.ensures)
    ∙ (ap (λ (id : Option (List ℕ)). keyword_names heap (chars item.file) item.test id c.items-marks.result.now) c.as_ref.ensures.value
    ∙ ap (λ (ms : List Value). keyword_names heap (chars item.file) item.test item.id ms) c.items-marks.ensures))))
    ∙ ap (λ (ns : List (List ℕ)). is_selected o (keyword_names heap (chars item.file) item.test item.id item.marks) ns)
    (c.deref-2.ensures.value ∙ (c.in_ok-names.ensures ∙ ap (mark_names heap) c.items-marks.ensures)))
