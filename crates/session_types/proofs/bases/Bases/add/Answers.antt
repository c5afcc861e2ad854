use Rattle.std.proofs.Common.{ℕ, List, [], ◌∷◌, sym, ap, ◌∙◌}
use Rattle.session_types.specs.Numbers.{among}
use Rattle.session_types.specs.Spans.{AreJoined}
use Rattle.session_types.specs.declared.bases.Span.{Span}
use Rattle.session_types.proofs.Spans.{among_spans, joined_as, one_number}
use Rattle.session_types.proofs.bases.Bases.add.Goals as goal

pub returns : goal.returns
returns c =
    let old = c.self.inside.spans.items in
    let one : List Span = record { first = c.args.number; last = c.args.number } ∷ [] in
    let h : AreJoined c.in_ok-self-inside.field-0.items one old = rw (← c.deref.ensures.value) c.in_ok-self-inside.ensures in
    joined_as c.in_ok-self-inside.field-0.items one old (c.args.number ∷ []) c.args.self.now h (λ n. one_number n c.args.number)
    (λ n. sym (among_spans n old) ∙ ap (λ (l : List ℕ). among n l) c.self.view_is)
