use Rattle.std.proofs.Common.{Some}
use Rattle.machine_state.specs.py_world.Displays.{dict_displayed}
use Rattle.machine_state.specs.py_world.Outcome.{costing}
use Rattle.machine_state.specs.py_world.Site.{trace_of}
use Rattle.machine_state.specs.py_world.World.{heap_of}
use Rattle.machine_state.specs.Frames.{machine_rest, site_now, state_of}
use Rattle.machine_expr.specs.Pairs.{IsNextPair}
use Rattle.machine_expr.proofs.Displays.{pairs_begin}
use Rattle.machine_expr.proofs.containers.begin_dict.Goals as goal

pub returns-in_ok-push-in-Some-clause-next : goal.returns-in_ok-push-in-Some-clause-next
returns-in_ok-push-in-Some-clause-next c =
    let m = c.args.m.now in
    let p = site_now m in
    let k = machine_rest m in
    let n : IsNextPair (Some c.in-Some.e) 0 c.args.ks.now c.args.es.now = rw c.in-Some.is at c.in_ok-e.ensures in
    rw c.in_ok-push-in-Some.ensures
    (pairs_begin c.in-Some.e c.new-none.result.items p (state_of m) k (λ vs s. costing (dict_displayed (heap_of s) vs) (trace_of p) s k) c.args.ks.now c.args.es.now c.in_ok-clone-in-Some.field-0 c.in_ok-clone-in-Some-2.field-0
    c.new-none.ensures.items c.in_ok-clone-in-Some.ensures.cases c.in_ok-clone-in-Some-2.ensures.cases n.0)
