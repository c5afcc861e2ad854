use Rattle.std.proofs.Common.{◌≡◌, ℕ, List, ap, ◌∙◌}
use Rattle.std.specs.List.{list_any}
use Rattle.session_types.specs.Numbers.{among}
use Rattle.session_types.specs.Spans.{numbers_in}
use Rattle.session_types.proofs.Spans.{meets_is}
use Rattle.session_types.proofs.bases.Bases.has_any.Goals as goal

pub returns : goal.returns
returns c =
    let one = c.self.inside.spans.items in
    let other = c.others.inside.spans.items in
    let e : c.any_meets.result ≡ list_any (λ n. among n (numbers_in one)) (numbers_in other) = c.any_meets.ensures ∙ rw (c.deref.ensures.value, c.deref-2.ensures.value) (meets_is one other) in
    e ∙ (ap (λ (l : List ℕ). list_any (λ n. among n l) (numbers_in other)) c.self.view_is ∙ ap (λ (l : List ℕ). list_any (λ n. among n c.args.self.now) l) c.others.view_is)
