use Rattle.source_meaning.specs.Meaning.{source_semantics}
use Rattle.core_rules.proofs.Steps.{begin_exact, call_exact, load_exact, resume_exact}
use Rattle.core_rules.proofs.steps_are_exact.Goals as goal

pub returns-clause-calls : goal.returns-clause-calls
returns-clause-calls c = call_exact source_semantics

pub returns-clause-loads : goal.returns-clause-loads
returns-clause-loads c = load_exact source_semantics

pub returns-clause-begins : goal.returns-clause-begins
returns-clause-begins c = begin_exact source_semantics

pub returns-clause-resumes : goal.returns-clause-resumes
returns-clause-resumes c = resume_exact source_semantics
