use Rattle.std.proofs.Common.{◌≡◌, ◌∙◌, ◌++◌, ℕ, List, ap, codes}
use Rattle.py_kinds.specs.Kinds.{kind_name}
use Rattle.py_values.specs.Raises.{text_raise}
use Rattle.py_values.specs.declared.class.ExcClass.TheVariants.{AttributeError}
use Rattle.py_attributes.proofs.missing.no_attribute.Goals as goal

pub returns : goal.returns
returns c =
    let kind = kind_name c.args.heap.now c.args.v in
    let front = codes "' object has no attribute '" in
    let head : c.push_kind.new.chars.items ≡ codes "'" ++ kind =
    c.in_ok-push_kind.ensures
    ∙ ap (λ (xs : List ℕ). xs ++ kind) (c.in_ok-push_ascii.ensures ∙ ap (λ (xs : List ℕ). xs ++ codes "'") c.new-text.ensures.items)
    in
    let text : c.deref.result.now ≡ codes "'" ++ (kind ++ (front ++ (c.args.name.now ++ codes "'"))) =
    c.deref.ensures.value ∙ c.in_ok-push_between.ensures ∙ ap (λ (xs : List ℕ). xs ++ (front ++ (c.args.name.now ++ codes "'"))) head
    in
    c.in_ok-raise.ensures ∙ ap (text_raise AttributeError) text
