use Rattle.std.proofs.Common.{◌<◌, arith, sym}
use Rattle.machine_state.specs.core_meaning.Expressions.{eval}
use Rattle.machine_state.specs.Frames.{machine_rest}
use Rattle.machine_state.specs.Work.{weight_at}
use Rattle.machine_immediate.specs.AtOnce.{IsImmediate}
use Rattle.machine_immediate.proofs.AtOnces.{found}
use Rattle.machine_expr.proofs.Weights.{weighs}
use Rattle.machine_expr.proofs.evaluate.evaluate.Goals as goal

pub returns-in-Some-clause-next : goal.returns-in-Some-clause-next
returns-in-Some-clause-next c =
    let m = c.args.m.now in
    let h : IsImmediate (eval c.args.e.now) m.left c.in-Some.there m = found m (eval c.args.e.now) m.left c.in_ok-there.field-0 c.in-Some.there c.in-Some.is c.in_ok-there.ensures in
    sym (h.goes_on (machine_rest m))

pub returns-in-Some-clause-left : goal.returns-in-Some-clause-left
returns-in-Some-clause-left c =
    let m = c.args.m.now in
    let h : IsImmediate (eval c.args.e.now) m.left c.in-Some.there m = found m (eval c.args.e.now) m.left c.in_ok-there.field-0 c.in-Some.there c.in-Some.is c.in_ok-there.ensures in
    h.fewer

pub returns-in-Some-clause-work : goal.returns-in-Some-clause-work
returns-in-Some-clause-work c = let w : 0 < weight_at c.args.e.now.kind = weighs c.args.e.now.kind in omega arith
