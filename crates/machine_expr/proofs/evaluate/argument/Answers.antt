use Rattle.std.proofs.Common.{List, ap, sym, length, Some}
use Rattle.machine_state.specs.py_world.Arguments.{arguments_of}
use Rattle.machine_state.specs.py_world.Expressions.{call_on}
use Rattle.machine_state.specs.core_meaning.Expressions.{CorePart}
use Rattle.machine_state.specs.Frames.{machine_rest, site_now, state_of}
use Rattle.machine_immediate.specs.Parts.{IsNext}
use Rattle.machine_expr.proofs.evaluate.argument.Goals as goal

pub returns-in_ok-push-in-Some-clause-next : goal.returns-in_ok-push-in-Some-clause-next
returns-in_ok-push-in-Some-clause-next c =
    let n : IsNext (Some c.in-Some.e) (length c.args.so_far.items) c.args.es = rw c.in-Some.is at c.in_ok-e.ensures in
    rw c.in_ok-push-in-Some.ensures
    (ap (λ (ps : List CorePart). call_on c.args.callee (arguments_of c.args.names.value.items) ps c.args.so_far.items (site_now c.args.m.now) (state_of c.args.m.now) (machine_rest c.args.m.now)) (sym n.0))
