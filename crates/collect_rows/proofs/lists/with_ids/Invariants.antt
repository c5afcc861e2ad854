use Rattle.std.proofs.Common.{◌≡◌, ◌++◌, drop}
use Rattle.collect_rows.specs.Rows.{with_ids}
use Rattle.collect_rows.proofs.lists.with_ids.Given as goal

abbrev pub invariant-loop-at : goal.invariant-loop-at
invariant-loop-at l = l.all ++ with_ids (drop l.at l.sets) (drop l.at l.ids) ≡ with_ids l.sets l.ids
