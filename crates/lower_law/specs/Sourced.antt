-- The source that core code carries.
use Rattle.std.specs.Prelude.{List, Bool}
use Rattle.py_tree.specs.declared.stmt.Function as f
use Rattle.py_tree.specs.Statements.{Statement, NoStatement, block, block_on, parameters}
use Rattle.core_meaning.specs.py_core.Blocks.{source_in, explains_in}
use Rattle.core_meaning.specs.py_core.declared.stmt.Core.{Core}
use Rattle.core_meaning.specs.py_core.declared.stmt.CoreBlock.{CoreBlock}
use Rattle.core_meaning.specs.py_core.declared.stmt.CoreFn as fn
use Rattle.core_meaning.specs.py_core.declared.stmt.CoreFn.{CoreFn}
use Rattle.source_meaning.specs.Requests.{Script, Function}
use Rattle.source_meaning.specs.Statements.{function, script, statements_listed}

-- the statements of the source that a block stands for
abbrev pub sources_in : CoreBlock → List Statement
sources_in b = statements_listed (block (source_in b))

-- a function of a source as it lies in memory
abbrev pub function_in : Bool → f.Function → Function
function_in x (f.Function' decorators word name params returns p n body) = function x name (parameters params.value.items) (block_on NoStatement body)

-- THE SOURCE OF CORE CODE, which the code carries
abbrev pub source_of : CoreFn → Function
source_of (fn.CoreFn' source at name params locals yields p body) = function_in (explains_in body) source.value

abbrev pub module_of : Core → Script
module_of code = script (explains_in code.body.value) (block (source_in code.body.value))
