use Rattle.std.proofs.Common.{Some}
use Rattle.machine_state.specs.py_world.Displays.{displayed}
use Rattle.machine_state.specs.py_world.Outcome.{costing}
use Rattle.machine_state.specs.py_world.Site.{trace_of}
use Rattle.machine_state.specs.Frames.{display_of, machine_rest, site_now, state_of}
use Rattle.machine_immediate.specs.Parts.{IsNext}
use Rattle.machine_expr.proofs.Displays.{display_begins}
use Rattle.machine_expr.proofs.containers.begin_display.Goals as goal

pub returns-in_ok-push-in-Some-clause-next : goal.returns-in_ok-push-in-Some-clause-next
returns-in_ok-push-in-Some-clause-next c =
    let m = c.args.m.now in
    let p = site_now m in
    let k = machine_rest m in
    let n : IsNext (Some c.in-Some.e) 0 c.args.es.now = rw c.in-Some.is at c.in_ok-e.ensures in
    rw c.in_ok-push-in-Some.ensures
    (display_begins c.in-Some.e c.new-none.result.items p (state_of m) k (λ vs s. costing (displayed (display_of c.args.display) vs) (trace_of p) s k) c.args.es.now c.in_ok-clone-in-Some.field-0 c.new-none.ensures.items
    c.in_ok-clone-in-Some.ensures.cases n.0)
