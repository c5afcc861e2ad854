use Rattle.std.proofs.Common.{◌≡◌, ◌+◌, drop}
use Rattle.dict_methods.specs.Copies.{keys_steps}
use Rattle.dict_methods.proofs.copies.keys_steps.Given as goal

abbrev pub invariant-loop-at : goal.invariant-loop-at
invariant-loop-at l = keys_steps l.dict ≡ l.steps + keys_steps (drop l.at l.dict)
