use Rattle.std.proofs.Common.{◌≡◌, length}
use Rattle.item_stack.specs.Answers.{value_given}
use Rattle.item_stack.proofs.calling.value_given.Given as goal

abbrev pub invariant-given : goal.invariant-given
invariant-given g l = value_given l.def l.rest ≡ value_given l.def l.given

abbrev pub decreases-given : goal.decreases-given
decreases-given g l = length l.rest
