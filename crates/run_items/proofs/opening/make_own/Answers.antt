use Rattle.run_items.proofs.Doings.{opened_same}
use Rattle.run_items.specs.Stands.{stand_state}
use Rattle.run_items.proofs.opening.make_own.Goals as goal

pub returns : goal.returns
returns c = opened_same c.args.plan.now c.args.item.now c.requires.item (stand_state c.args.stand.now) c.in_ok-own.own c.make_instance.new.world c.in_ok-own.ensures
