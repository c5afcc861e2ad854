-- The statements of a block of core, and those of the source that they stand for.
use Rattle.std.specs.Prelude.{List, Bool}
use Rattle.py_tree.specs.declared.stmt.Stmt.{Stmt}
use Rattle.py_core.specs.declared.stmt.CoreBlock as block
use Rattle.py_core.specs.declared.stmt.CoreStmt.{CoreStmt}
use Rattle.py_core.specs.declared.stmt.CoreBlock.{items-the_row-CoreStmt}
use Rattle.py_tree.specs.declared.stmt.Handler.{Handler}
use Rattle.py_core.specs.declared.stmt.CoreHandler.{CoreHandler}
use Rattle.py_core.specs.declared.stmt.CoreGuard as guard
use Rattle.py_core.specs.declared.stmt.CoreGuard.{items-the_row-CoreHandler}

-- the core statements
abbrev pub stmts_in : block.CoreBlock → List CoreStmt
stmts_in (block.CoreBlock' source x n row) = items-the_row-CoreStmt _ row

-- the source's statements
abbrev pub source_in : block.CoreBlock → List Stmt
source_in (block.CoreBlock' source x n row) = source.value.items

-- whether asserts are explained
abbrev pub explains_in : block.CoreBlock → Bool
explains_in (block.CoreBlock' source x n row) = x

-- the core handlers of a `try`, and those of the source
abbrev pub handlers_in : guard.CoreGuard → List CoreHandler
handlers_in (guard.CoreGuard' source n row p other q last) = items-the_row-CoreHandler _ row

abbrev pub handlers_source : guard.CoreGuard → List Handler
handlers_source (guard.CoreGuard' source n row p other q last) = source.value.items

-- the blocks behind `else` and `finally`
abbrev pub other_in : guard.CoreGuard → block.CoreBlock
other_in (guard.CoreGuard' source n row p other q last) = other

abbrev pub last_in : guard.CoreGuard → block.CoreBlock
last_in (guard.CoreGuard' source n row p other q last) = last
