use Rattle.source_meaning.specs.Statements.{script_body}
use Rattle.core_rules.proofs.Loading as loading
use Rattle.core_rules.proofs.modules_are_executed_once.Goals as goal

pub returns-clause-again : goal.returns-clause-again
returns-clause-again c = loading.again script_body

pub returns-clause-first : goal.returns-clause-first
returns-clause-first c = loading.first script_body

pub returns-clause-begins : goal.returns-clause-begins
returns-clause-begins c = loading.begins

pub returns-clause-fails : goal.returns-clause-fails
returns-clause-fails c = loading.fails
