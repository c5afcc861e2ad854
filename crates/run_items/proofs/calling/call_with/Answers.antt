use Rattle.run_items.proofs.Doings.{called_same}
use Rattle.run_items.specs.Stands.{stand_state}
use Rattle.run_items.proofs.calling.call_with.Goals as goal

pub returns : goal.returns
returns c =
    called_same c.args.plan.now c.args.item.now c.requires.item (stand_state c.args.stand.now) c.args.values.now c.in_ok-request.request c.ask_test.new.world c.call_test.new.world c.in_ok-failure.failure
    c.in_ok-request.ensures c.in_ok-failure.ensures
