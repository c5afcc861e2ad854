use Rattle.pytest_core.proofs.Reports.{some_answer}
use Rattle.pytest_core.proofs.laws.has_report.Goals as goal

pub returns : goal.returns
returns c = some_answer
