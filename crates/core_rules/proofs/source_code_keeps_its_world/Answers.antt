use Rattle.core_rules.proofs.SourceResumes as resumes
use Rattle.core_rules.proofs.SourceRuns as runs
use Rattle.core_rules.proofs.source_code_keeps_its_world.Goals as goal

pub returns-clause-calls : goal.returns-clause-calls
returns-clause-calls c = runs.calls_keep

pub returns-clause-loads : goal.returns-clause-loads
returns-clause-loads c = runs.loads_keep

pub returns-clause-executed : goal.returns-clause-executed
returns-clause-executed c = runs.loads_execute

pub returns-clause-once : goal.returns-clause-once
returns-clause-once c = runs.loads_again

pub returns-clause-begins : goal.returns-clause-begins
returns-clause-begins c = resumes.begins_keep

pub returns-clause-resumes : goal.returns-clause-resumes
returns-clause-resumes c = resumes.resumes_keep
