use Rattle.pytest_core.proofs.Reports.{one_answer}
use Rattle.pytest_core.proofs.laws.one_report.Goals as goal

pub returns : goal.returns
returns c = one_answer c.one_list_of_kept_files.ensures
