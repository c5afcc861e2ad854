use Rattle.std.proofs.Common.{Bool, List, ap, ◌∙◌}
use Rattle.setup_stack.specs.Standing.{is_marked}
use Rattle.setup_stack.proofs.Marked.{marked_push}
use Rattle.setup_stack.proofs.marks.make_room.Goals as goal

pub room-preserved : goal.room-preserved
room-preserved c = λ e. ap (λ (l : List Bool). is_marked l e) c.in_ok-push.ensures.items ∙ (marked_push c.room.marks.items e ∙ c.room.invariant e)
