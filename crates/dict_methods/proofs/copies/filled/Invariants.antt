use Rattle.std.proofs.Common.{◌≡◌, drop}
use Rattle.dict_methods.specs.Copies.{filled}
use Rattle.dict_methods.proofs.copies.filled.Given as goal

abbrev pub invariant-loop-at : goal.invariant-loop-at
invariant-loop-at l = filled l.fn.into l.cost l.dict ≡ filled l.into l.steps (drop l.at l.dict)
