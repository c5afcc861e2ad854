use Rattle.run_items.proofs.Doings.{wrong_same}
use Rattle.run_items.specs.Stands.{stand_state}
use Rattle.run_items.proofs.calling.fail_arguments.Goals as goal

pub returns : goal.returns
returns c = wrong_same c.args.plan.now c.args.item.now c.requires.item (stand_state c.args.stand.now) c.in_ok-failure.failure c.wrong_arguments.new.world c.in_ok-failure.ensures
