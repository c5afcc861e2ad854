use Rattle.std.proofs.Common.{◌≡◌, ◌∙◌, ◌+◌, ap, sym}
use Rattle.std.proofs.lemmas.Result.{IfOk-weaker}
use Rattle.py_core.specs.declared.expr.CoreExpr.{CoreExpr}
use Rattle.py_ops.specs.Binary.{binary_of}
use Rattle.machine_state.specs.py_world.World.{heap_of}
use Rattle.machine_state.specs.py_world.Outcome.{on_value, operated}
use Rattle.machine_state.specs.py_world.Expressions.{right_operand}
use Rattle.machine_state.specs.core_meaning.Expressions.{eval}
use Rattle.machine_state.specs.declared.machine.TurnEnd.{TurnEnd}
use Rattle.machine_state.specs.Places.{ends}
use Rattle.machine_state.specs.Frames.{ending, machine_rest, site_now, state_of}
use Rattle.machine_state.specs.Work.{stack_work, weight}
use Rattle.machine_immediate.specs.AtOnce.{IsImmediate}
use Rattle.machine_immediate.proofs.AtOnces.{found}
use Rattle.machine_operands.proofs.Weights.{falls_within}
use Rattle.machine_operands.proofs.operands.take_right.Goals as goal

pub returns-in-Some-clause-next : goal.returns-in-Some-clause-next
returns-in-Some-clause-next c =
    let m = c.args.m.now in
    let m' = c.operate.new.m in
    let x = c.in-Some.there in
    let whole = λ (y : CoreExpr). ends m.left (right_operand c.args.x c.args.op (eval y) (site_now m) (state_of m) (machine_rest m)) in
    let h : IsImmediate (eval c.deref.result.now) m.left x m = found m (eval c.deref.result.now) m.left c.in_ok-there.field-0 x c.in-Some.is c.in_ok-there.ensures in
    IfOk-weaker c.operate.result (λ (t : TurnEnd). ends x.left (operated (binary_of c.args.op m.heap c.args.x x.value) (site_now m) (state_of m) (machine_rest m)) ≡ ending t m')
    (λ (t : TurnEnd). whole c.args.b.now.value ≡ ending t m')
    (λ t g. ap whole (sym c.deref.ensures) ∙ h.goes_on (λ o. on_value o (machine_rest m) (λ v s. operated (binary_of c.args.op (heap_of s) c.args.x v) (site_now m) s (machine_rest m))) ∙ g)
    c.operate.ensures.next

pub returns-in-Some-clause-work : goal.returns-in-Some-clause-work
returns-in-Some-clause-work c =
    let m = c.args.m.now in
    let x = c.in-Some.there in
    let h : IsImmediate (eval c.deref.result.now) m.left x m = found m (eval c.deref.result.now) m.left c.in_ok-there.field-0 x c.in-Some.is c.in_ok-there.ensures in
    IfOk-weaker c.operate.result _ _ (λ (t : TurnEnd) g. falls_within t c.operate.new.m x.left m.left (weight c.args.b.now.value + 2 + stack_work m) h.fewer (g (weight c.args.b.now.value + 2 + stack_work m))) c.operate.ensures.work
