use Rattle.std.proofs.Common.{◌∙◌, ap, List, option_map}
use Rattle.std.proofs.lemmas.Result.{IfOk-weaker}
use Rattle.py_values.specs.declared.object.Obj.{Obj}
use Rattle.test_session.proofs.Answered.{left_there}
use Rattle.test_session.specs.Stacks.{looked_at}
use Rattle.test_session.proofs.stack.SetupStack.leave.Goals as goal

pub returns-clause-answer : goal.returns-clause-answer
returns-clause-answer c =
    IfOk-weaker c.all_thrown.result _ _
    (λ thrown m. (
      c.in_ok-raised.raised,
      m,
      left_there c.args.world.now.heap c.args.self.now c.look.new.stack (c.in_ok-look.ensures.looked ∙ ap (λ (h : List Obj). looked_at h c.args.self.now) c.heap.ensures) c.args.budget (option_map (λ item. item.now) c.args.next) c.in_ok-raised.raised
          c.args.world.now c.leave_as.new.world c.leave_as.new.stack.stand.stack.stack c.in_ok-raised.ensures.left,
    )) c.all_thrown.ensures
