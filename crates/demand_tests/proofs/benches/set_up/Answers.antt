use Rattle.std.proofs.Common.{ℕ, List, sym, subst, length}
use Rattle.fixture_instances.specs.Items.{item_for_session}
use Rattle.setup_stack.specs.Asking.{AreReady}
use Rattle.demand_tests.specs.Logs.{logging}
use Rattle.demand_tests.proofs.Rows.{bench_ready}
use Rattle.demand_tests.proofs.benches.set_up.Goals as goal

pub demand_each-requires-clause-ready : goal.demand_each-requires-clause-ready
demand_each-requires-clause-ready c =
    let script = c.args.bench.now.script in
    let table = c.args.bench.now.table in
    subst (λ (ids : List ℕ). AreReady (logging script) (item_for_session table c.args.item.now) (length table.defs) (length script.parts) ids) (sym c.deref.ensures.value)
    (bench_ready script table c.args.item.now c.in-Ok.ids.items c.requires.bench c.requires.bound c.in-Ok.ensures.within c.in-Ok.ensures.settled)

pub demand_all-requires-clause-ready : goal.demand_all-requires-clause-ready
demand_all-requires-clause-ready c =
    let script = c.args.bench.now.script in
    let table = c.args.bench.now.table in
    subst (λ (ids : List ℕ). AreReady (logging script) (item_for_session table c.args.item.now) (length table.defs) (length script.parts) ids) (sym c.deref-in-AtOnce.ensures.value)
    (bench_ready script table c.args.item.now c.in-Ok.ids.items c.requires.bench c.requires.bound c.in-Ok.ensures.within c.in-Ok.ensures.settled)
