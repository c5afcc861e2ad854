use Rattle.std.proofs.Common.{◌≡◌, sym, ap, true, false, ◌∙◌}
use Rattle.std.specs.List.{list_all}
use Rattle.text_methods.specs.Joins.{is_text, by_length}
use Rattle.text_methods.proofs.Joining.{other_elements, all_joined}
use Rattle.text_methods.proofs.joined.join_values.Goals as goal

pub returns-then-not-are_texts : goal.returns-then-not-are_texts
returns-then-not-are_texts c =
    let e : list_all (is_text c.args.heap.now) c.args.values.now ≡ false = cc in
    sym (other_elements c.args.sep.now c.args.heap.now c.args.values.now e)

pub returns : goal.returns
returns c =
    let e : list_all (is_text c.args.heap.now) c.args.values.now ≡ true = cc in
    c.by_length.ensures ∙ (ap by_length c.in_ok-text.ensures ∙ sym (all_joined c.args.sep.now c.args.heap.now c.args.values.now e))
