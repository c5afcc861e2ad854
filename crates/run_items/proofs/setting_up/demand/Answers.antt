use Rattle.std.proofs.Common.{◌<◌, ap, length, subst, sym}
use Rattle.fixture_world.specs.Items.{item_in_session}
use Rattle.item_stack.proofs.Course.{demanded_in_course}
use Rattle.item_stack.specs.States.{item_state}
use Rattle.item_stack.specs.fixture_instances.Items.{item_for_session}
use Rattle.item_stack.specs.fixture_instances.declared.items.ItemRef.{ItemRef}
use Rattle.item_stack.specs.setup_stack.Asking.{AreReady}
use Rattle.item_stack.specs.setup_stack.Passing.{AreAsked}
use Rattle.py_values.specs.declared.value.Value.{Value}
use Rattle.run_items.proofs.Ready.{plan_asked, plan_ready}
use Rattle.run_items.specs.Stands.{plan_rules, stand_state}
use Rattle.run_items.proofs.setting_up.demand.Goals as goal

pub demand_all-requires-clause-known : goal.demand_all-requires-clause-known
demand_all-requires-clause-known c = c.requires.plan.many

pub demand_all-requires-clause-own : goal.demand_all-requires-clause-own
demand_all-requires-clause-own c = ap (λ (at : ItemRef Value). at.own) c.in_ok-at.ensures

pub demand_all-requires-clause-scopes : goal.demand_all-requires-clause-scopes
demand_all-requires-clause-scopes c = c.requires.plan.scopes

pub demand_all-requires-clause-tree : goal.demand_all-requires-clause-tree
demand_all-requires-clause-tree c = c.requires.plan.tree

pub demand_all-requires-clause-node : goal.demand_all-requires-clause-node
demand_all-requires-clause-node c = subst (λ (at : ItemRef Value). at.node < length c.args.plan.now.table.nodes) (sym c.in_ok-at.ensures) c.requires.item.node

pub demand_all-requires-clause-ready : goal.demand_all-requires-clause-ready
demand_all-requires-clause-ready c =
    let plan = c.args.plan.now in
    subst (λ (at : ItemRef Value). AreReady (plan_rules plan) (item_for_session plan.table at) (length plan.table.defs) (plan_rules plan).depth c.args.defs.now) (sym c.in_ok-at.ensures)
    (plan_ready plan c.args.item.now c.args.stand.now.stack.stack.own c.requires.plan c.requires.item c.args.defs.now c.requires.closure)

pub returns : goal.returns
returns c =
    let plan = c.args.plan.now in
    let item = c.args.item.now in
    let known = item_in_session plan.table item in
    let stand = c.args.stand.now in
    demanded_in_course (plan_rules plan) (stand_state stand) known c.args.defs.now c.in_ok-raised.raised (item_state (plan_rules plan) stand.world stand.stack) (item_state (plan_rules plan) c.demand_all.new.world c.demand_all.new.held)
    (c.in_ok-raised.ensures.state known
    (subst (λ (at : ItemRef Value). AreAsked known (item_for_session plan.table at)) (sym c.in_ok-at.ensures) (plan_asked plan item stand.stack.stack.own)))

pub demand_all-requires-clause-frames : goal.demand_all-requires-clause-frames
demand_all-requires-clause-frames c = c.requires.frames
