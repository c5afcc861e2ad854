use Rattle.explain_law.proofs.Ends as end
use Rattle.explain_law.proofs.Real.{really}
use Rattle.explain_law.proofs.all_else_is_the_same.Goals as goal

pub returns-clause-really : goal.returns-clause-really
returns-clause-really c = really

pub returns-clause-calls : goal.returns-clause-calls
returns-clause-calls c = end.calls_same

pub returns-clause-loads : goal.returns-clause-loads
returns-clause-loads c = end.modules_same

pub returns-clause-begins : goal.returns-clause-begins
returns-clause-begins c = end.begins_same

pub returns-clause-resumes : goal.returns-clause-resumes
returns-clause-resumes c = end.resumes_same
