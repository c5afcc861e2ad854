-- A world with one function, on which laws are tried: `def f():` with a `yield` in the block of a `try` whose `finally` is a `pass`.
use Rattle.std.specs.Prelude.{[], ◌∷◌, None, true, false}
use Rattle.py_source.specs.declared.pos.Pos.{Pos}
use Rattle.py_tree.specs.Trees.{Absent}
use Rattle.py_tree.specs.Statements.{Block, NoStatement, Next, NoHandler, Try, YieldOf, Pass}
use Rattle.py_values.specs.declared.object.FunctionObj.{FunctionObj}
use Rattle.py_values.specs.declared.object.Obj.TheVariants as obj
use Rattle.source_meaning.specs.py_world.World.{FunctionCode}
use Rattle.source_meaning.specs.Requests.{Function}
use Rattle.source_meaning.specs.Meaning.{SourceWorld}

abbrev pub body_that_tries : Pos → Block
body_that_tries at = Next NoStatement (Try at (Next NoStatement (YieldOf at at Absent)) NoHandler NoStatement (Next NoStatement (Pass at)))

abbrev pub code_that_tries : Pos → FunctionCode Function
code_that_tries at = record { path = []; home = 0; code = record { explains = false; name = []; params = []; body = body_that_tries at } }

abbrev pub function_that_tries : FunctionObj
function_that_tries = record { path = []; name = []; line = 1; params = []; yields = true; marks = []; class = None; code = 0 }

abbrev pub world_that_tries : Pos → SourceWorld
world_that_tries at = record { sources = []; modules = []; heap = obj.Function function_that_tries ∷ []; codes = code_that_tries at ∷ []; printed = []; frozen = []; traces = [] }
