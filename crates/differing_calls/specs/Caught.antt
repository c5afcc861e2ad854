-- A module in which a function handles the failed assert of another one.
use Rattle.std.specs.Prelude.{ℕ, ◌+◌, List, [], ◌∷◌, length, Bool, None, codes}
use Rattle.py_tree.specs.Trees as t
use Rattle.py_tree.specs.Trees.{Empty, Absent, Present}
use Rattle.py_tree.specs.Statements.{Statement, Block, NoStatement, Next, NoHandler, Handler, Parameter_at, Do, Return, Assert, Try, Def}
use Rattle.py_values.specs.declared.value.Value.{Value}
use Rattle.py_values.specs.declared.value.Value.TheVariants as val
use Rattle.py_values.specs.Ends.{id_at}
use Rattle.source_meaning.specs.Meaning.{SourceWorld, source_semantics, source_module}
use Rattle.source_meaning.specs.Statements.{script}
use Rattle.source_meaning.specs.py_kinds.Builtins.{first_heap}
use Rattle.source_meaning.specs.py_world.Outcome.{Rest}
use Rattle.source_meaning.specs.py_world.Runs.{start, begun_by_runner}
use Rattle.explain_law.specs.Choices.{K}
use Rattle.differing_calls.specs.Asserts.{pos_at, with_one_source}

abbrev pub caught_path : List ℕ
caught_path = codes "test_caught.py"

abbrev pub caught_text : List ℕ
caught_text = codes "def g():\n    assert False\n\ndef f(a):\n    try:\n        g()\n    except AssertionError:\n        return a\n"

-- def g():
--     assert False
abbrev pub def_of_g : Statement
def_of_g = Def (pos_at 1 0) Empty (pos_at 1 0) (codes "g") [] Absent (Next NoStatement (Assert (pos_at 2 4) (t.False (pos_at 2 11)) Absent))

-- def f(a):
--     try:
--         g()
--     except AssertionError:
--         return a
abbrev pub call_of_g : Statement
call_of_g = Do (pos_at 6 8) (t.Call (pos_at 6 9) (t.Name (pos_at 6 8) (codes "g")) Empty [])

abbrev pub return_of_a : Statement
return_of_a = Return (pos_at 8 8) (Present (t.Name (pos_at 8 15) (codes "a")))

abbrev pub try_of_g : Statement
try_of_g = Try (pos_at 5 4) (Next NoStatement call_of_g) (Handler NoHandler (pos_at 7 4) (Present (t.Name (pos_at 7 11) (codes "AssertionError"))) None (Next NoStatement return_of_a)) NoStatement NoStatement

abbrev pub def_of_f : Statement
def_of_f = Def (pos_at 4 0) Empty (pos_at 4 0) (codes "f") (Parameter_at (pos_at 4 6) (codes "a") Absent Absent ∷ []) Absent (Next NoStatement try_of_g)

abbrev pub caught_code : Block
caught_code = Next (Next NoStatement def_of_g) def_of_f

-- a world at its start that has this source, explained or not
abbrev pub with_caught : Bool → SourceWorld
with_caught explains = with_one_source caught_path caught_text (script explains caught_code)

-- and behind the load of the module
abbrev pub caught_loaded : Bool → SourceWorld
caught_loaded explains = (source_module caught_path 10 (with_caught explains)).1

-- its function f, behind the text of the module's name, the module and g
abbrev pub the_f : Value
the_f = val.Ref (id_at (length first_heap + 3))

-- what a call of it by the runner does
abbrev pub call_of_f : List Value → Bool → Rest K
call_of_f args explains = begun_by_runner source_semantics the_f args (start (caught_loaded explains))
