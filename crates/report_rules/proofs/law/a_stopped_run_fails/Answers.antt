use Rattle.report_rules.proofs.Failing.{stopped_fails}
use Rattle.report_rules.proofs.law.a_stopped_run_fails.Goals as goal

pub returns : goal.returns
returns g c = λ profile options collected taken e. stopped_fails g.W.Tests.holds profile options collected taken e
