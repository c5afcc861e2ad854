use Rattle.std.proofs.Common.{ℕ, List, sym, ap, ◌∙◌}
use Rattle.session_types.specs.Numbers.{among}
use Rattle.session_types.specs.Spans.{AreJoined}
use Rattle.session_types.proofs.Spans.{among_spans, joined_as}
use Rattle.session_types.proofs.bases.Bases.add_all.Goals as goal

pub returns : goal.returns
returns c =
    let old = c.self.inside.spans.items in
    let more = c.others.inside.spans.items in
    let h : AreJoined c.in_ok-self-inside.field-0.items more old = rw (← c.deref.ensures.value, ← c.deref-2.ensures.value) c.in_ok-self-inside.ensures in
    joined_as c.in_ok-self-inside.field-0.items more old c.args.others.now c.args.self.now h
    (λ n. sym (among_spans n more) ∙ ap (λ (l : List ℕ). among n l) c.others.view_is)
    (λ n. sym (among_spans n old) ∙ ap (λ (l : List ℕ). among n l) c.self.view_is)
