use Rattle.std.proofs.Common.{◌≡◌, take}
use Rattle.collect_items.proofs.copies.all_params.Given as goal

abbrev pub invariant-loop-one : goal.invariant-loop-one
invariant-loop-one l = l.copies ≡ take l.one-index l.params
