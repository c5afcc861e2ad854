use Rattle.std.proofs.Common.{◌≡◌, ◌∙◌, length}
use Rattle.std.proofs.lemmas.Result.{IfOk-weaker}
use Rattle.machine_state.specs.py_world.Arguments.{arguments_of}
use Rattle.machine_state.specs.py_world.Expressions.{call_on}
use Rattle.machine_state.specs.declared.machine.NextAction.{NextAction}
use Rattle.machine_state.specs.Places.{ends, parts_from}
use Rattle.machine_state.specs.Frames.{machine_rest, site_now, state_of, todo}
use Rattle.machine_turns.proofs.Same.{same_run}
use Rattle.machine_expr.proofs.evaluate.arguments.Goals as goal

pub returns-in-None-clause-next : goal.returns-in-None-clause-next
returns-in-None-clause-next c =
    let m = c.each.m in
    let m' = c.argument.new.m in
    let es = c.args.es in
    let vs = c.each.so_far.items in
    let old = c.args.m.now in
    let begun = c.args.so_far.items in
    let tree = call_on c.args.callee (arguments_of c.args.names.value.items) (parts_from (length vs) es) vs (site_now m) (state_of m) (machine_rest m) in
    let whole = call_on c.args.callee (arguments_of c.args.names.value.items) (parts_from (length begun) es) begun (site_now old) (state_of old) (machine_rest old) in
    IfOk-weaker c.argument.result (λ (d : NextAction). todo d m' ≡ tree) (λ (d : NextAction). ends m'.left (todo d m') ≡ ends old.left whole)
    (λ d h. same_run m.left m'.left (todo d m') tree c.argument.ensures.left h ∙ c.each.invariant.goes_on) c.argument.ensures.next
