use Rattle.run_items.proofs.Doings.{fails_same}
use Rattle.run_items.specs.Stands.{stand_state}
use Rattle.run_items.proofs.ending.is_error.Goals as goal

pub returns : goal.returns
returns c = fails_same c.args.plan.now c.args.item.now c.requires.item c.args.raised.now (stand_state c.args.stand.now) c.in_ok-error.error c.in_ok-error.ensures
