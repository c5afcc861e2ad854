use Rattle.std.proofs.Common.{◌≡◌, ◌∙◌, List, ap}
use Rattle.std.proofs.lemmas.Result.{IfOk-weaker}
use Rattle.machine_state.specs.py_world.Expressions.{right_operand}
use Rattle.machine_state.specs.core_meaning.Expressions.{eval}
use Rattle.machine_state.specs.declared.frame.Frame.{Frame}
use Rattle.machine_state.specs.declared.machine.NextAction.{NextAction}
use Rattle.machine_state.specs.Places.{ends, site_of}
use Rattle.machine_state.specs.Frames.{after_stack, handled_exception, machine_rest, outer_of, site_now, state_of, todo}
use Rattle.machine_state.specs.Stacks.{StackView}
use Rattle.machine_expr.proofs.evaluate.begin_right.Goals as goal

pub returns-clause-next : goal.returns-clause-next
returns-clause-next c =
    let m = c.args.m.now in
    let m' = c.begin_part.new.m in
    let part = λ (x : StackView). ends m.left (eval c.args.b.now.value (site_of m.here (outer_of x.own) (handled_exception x.own)) (state_of (record m { stack = x })) (after_stack x.own m.here)) in
    IfOk-weaker c.begin_part.result (λ (d : NextAction). ends m'.left (todo d m') ≡ part c.push.new.self)
    (λ (d : NextAction). ends m'.left (todo d m') ≡ ends m.left (right_operand c.args.x c.args.op (eval c.args.b.now.value) (site_now m) (state_of m) (machine_rest m)))
    (λ d h. h ∙ ap part c.in_ok-push.ensures) c.begin_part.ensures.next
