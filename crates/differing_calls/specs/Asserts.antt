-- A module with one assert that fails, explained or not.
use Rattle.std.specs.Prelude.{ℕ, List, [], ◌∷◌, Bool, true, false, codes}
use Rattle.py_source.specs.declared.pos.Pos.{Pos}
use Rattle.py_tree.specs.Trees as t
use Rattle.py_tree.specs.Trees.{Absent}
use Rattle.py_tree.specs.Statements.{Block, NoStatement, Next, Assert}
use Rattle.source_meaning.specs.Meaning.{SourceWorld, source_semantics}
use Rattle.source_meaning.specs.Requests.{Script}
use Rattle.source_meaning.specs.Statements.{script}
use Rattle.source_meaning.specs.py_kinds.Builtins.{first_heap}
use Rattle.source_meaning.specs.py_world.World.{Code}
use Rattle.source_meaning.specs.py_world.Outcome.{Rest}
use Rattle.source_meaning.specs.py_world.Runs.{loading}
use Rattle.explain_law.specs.Choices.{Choices, K, world_with, source_with}

-- none is explained, or each
abbrev pub none_or_each : Choices
none_or_each = record { first = λ path. false; second = λ path. true }

abbrev pub pos_at : ℕ → ℕ → Pos
pos_at line column = record { line = line; column = column }

-- a world at its start that has one source
abbrev pub with_one_source : List ℕ → List ℕ → Script → SourceWorld
with_one_source path text code = world_with (source_with path text (Code code) ∷ []) [] first_heap [] [] [] []

abbrev pub assert_path : List ℕ
assert_path = codes "test_assert.py"

abbrev pub assert_text : List ℕ
assert_text = codes "assert False\n"

abbrev pub assert_false : Block
assert_false = Next NoStatement (Assert (pos_at 1 0) (t.False (pos_at 1 7)) Absent)

abbrev pub with_assert : Bool → SourceWorld
with_assert explains = with_one_source assert_path assert_text (script explains assert_false)

-- the load of it
abbrev pub assert_load : Bool → Rest K
assert_load explains = loading source_semantics assert_path (script explains assert_false) (with_assert explains)
