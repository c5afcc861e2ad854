use Rattle.std.proofs.Common.{◌≡◌, IfOk, List, ℕ, encode_utf8_all, eq-eqb, subst, ap, ◌∙◌, arith}
use Rattle.std.specs.Prelude.{slice_get}
use Rattle.collect_rows.specs.Rows.{id_or_empty}
use Rattle.collect_rows.proofs.Seen.{id_here}
use Rattle.collect_rows.proofs.given.id_among.Goals as goal

pub returns-then-def-one : goal.returns-then-def-one
returns-then-def-one c =
    subst (λ (x : List ℕ). IfOk c.id_or_empty.result (λ t. t ≡ encode_utf8_all x))
    (ap id_or_empty (c.id_at.ensures ∙ ap (λ xs. slice_get xs c.args.number) c.deref.ensures.value)
    ∙ id_here c.args.lists.now c.loop-one.one-index c.loop-one-item.result c.args.def c.args.number _ (omega arith) c.loop-one-item.is (eq-eqb c.args.def c.loop-one-item.result.0 c.if-def-one.true) c.loop-one.invariant)
    c.id_or_empty.ensures
