use Rattle.report_rules.proofs.Failing.{item_shown}
use Rattle.report_rules.proofs.law.what_is_shown_is_what_was_counted.Goals as goal

pub returns : goal.returns
returns g c = λ options scope fixture row i. item_shown options scope fixture row.task row.task.chosen.item.node row.ends row.arrivals i
