use Rattle.std.proofs.Common.{ap}
use Rattle.item_stack.specs.fixture_instances.declared.items.ItemRef.{ItemRef}
use Rattle.py_values.specs.declared.value.Value.{Value}
use Rattle.run_items.proofs.Doings.{noted_same}
use Rattle.session_types.specs.declared.journal.Event.TheVariants.{CallEnds}
use Rattle.run_items.proofs.calling.end_call.Goals as goal

pub returns : goal.returns
returns c =
    noted_same c.args.stand.now c.call_ends.new.self (CallEnds c.plain_item-at.result.node) (CallEnds c.args.node) c.in_ok-call_ends.ensures.stack c.in_ok-call_ends.ensures.events
    (ap (λ (i : ItemRef Value). CallEnds i.node) c.plain_item-at.ensures)
