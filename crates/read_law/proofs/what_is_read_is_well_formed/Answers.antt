use Rattle.read_law.proofs.Forms.{block_is}
use Rattle.read_law.proofs.Parameters.{body_yields_stand, parameters_differ}
use Rattle.read_law.proofs.Standing.{placed}
use Rattle.py_grammar.specs.Context.{in_module}
use Rattle.read_law.proofs.what_is_read_is_well_formed.Goals as goal

pub returns-clause-lowered : goal.returns-clause-lowered
returns-clause-lowered c = λ tokens block r. block_is block

pub returns-clause-parameters : goal.returns-clause-parameters
returns-clause-parameters c = λ tokens block r at word decorators name params returns body stands values. parameters_differ at word decorators name params returns body (placed stands in_module r.1) values

pub returns-clause-yields : goal.returns-clause-yields
returns-clause-yields c = λ tokens block r at word decorators name params returns body stands. body_yields_stand at word decorators name params returns body (placed stands in_module r.1)
