use Rattle.run_items.proofs.Unrun.{are_not_run}
use Rattle.run_items.proofs.running.not_run.Goals as goal

pub returns : goal.returns
returns c = are_not_run c.args.items.now c.args.selected.now c.in_ok-reports.reports.items c.in_ok-reports.ensures
