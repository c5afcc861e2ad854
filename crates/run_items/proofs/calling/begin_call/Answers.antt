use Rattle.std.proofs.Common.{ℕ, ap, ap₂, List, []}
use Rattle.item_stack.specs.fixture_instances.declared.items.ItemRef.{ItemRef}
use Rattle.item_stack.proofs.Values.{orders_same}
use Rattle.py_values.specs.declared.value.Value.{Value}
use Rattle.run_items.proofs.Doings.{noted_same}
use Rattle.run_items.specs.Stands.{stand_state}
use Rattle.fixture_world.specs.runtest_rules.Language.{python}
use Rattle.session_rules.specs.Demand.{numbers_of}
use Rattle.session_types.specs.declared.journal.Event.TheVariants.{CallBegins}
use Rattle.item_stack.specs.setup_stack.Grants.{orders_of}
use Rattle.run_items.proofs.calling.begin_call.Goals as goal

pub returns : goal.returns
returns c =
    let given = c.args.stand.now.stack.stack.given in
    noted_same c.args.stand.now c.call_begins.new.self (CallBegins c.plain_item-at.result.node (orders_of given [])) (CallBegins c.args.node (numbers_of (stand_state c.args.stand.now).given []))
    c.in_ok-call_begins.ensures.stack c.in_ok-call_begins.ensures.events
    (ap₂ (λ (n : ℕ) (orders : List ℕ). CallBegins n orders) (ap (λ (i : ItemRef Value). i.node) c.plain_item-at.ensures) (orders_same python given []))
