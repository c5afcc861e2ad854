use Rattle.std.proofs.Common.{◌≡◌, ℕ, ◌<◌, ◌++◌, true}
use Rattle.param_rows.specs.Ids.{has_id, numbered}
use Rattle.param_rows.proofs.numbering.first_free.Given as goal

abbrev pub invariant-loop-number : goal.invariant-loop-number
invariant-loop-number l = (n : ℕ) → n < l.number → has_id (numbered l.id n) (l.ids ++ l.made) ≡ true
