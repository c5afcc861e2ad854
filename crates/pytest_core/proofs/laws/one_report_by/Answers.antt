use Rattle.pytest_core.proofs.Reports.{one_answer_by}
use Rattle.pytest_core.proofs.laws.one_report_by.Goals as goal

pub returns : goal.returns
returns c = one_answer_by c.one_list_of_kept_files.ensures
