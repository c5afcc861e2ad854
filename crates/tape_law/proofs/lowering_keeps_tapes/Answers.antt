use Rattle.tape_law.proofs.Tapes.{begins, loads, resumes}
use Rattle.tape_law.proofs.lowering_keeps_tapes.Goals as goal

pub returns-clause-loads : goal.returns-clause-loads
returns-clause-loads c = loads

pub returns-clause-begins : goal.returns-clause-begins
returns-clause-begins c = begins

pub returns-clause-resumes : goal.returns-clause-resumes
returns-clause-resumes c = resumes
