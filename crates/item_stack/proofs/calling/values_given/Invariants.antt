use Rattle.std.proofs.Common.{◌≡◌, length}
use Rattle.item_stack.proofs.Values.{put_before}
use Rattle.item_stack.specs.Answers.{values_given}
use Rattle.item_stack.proofs.calling.values_given.Given as goal

abbrev pub invariant-asked : goal.invariant-asked
invariant-asked g l = put_before l.values (values_given l.given l.rest) ≡ values_given l.given l.asked

abbrev pub decreases-asked : goal.decreases-asked
decreases-asked g l = length l.rest
