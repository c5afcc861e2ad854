-- What source code asks for by name, its codes, and what remains of a body that has stopped.
use Rattle.std.specs.Prelude.{ℕ, List, Bool}
use Rattle.py_tree.specs.Trees.{Tree}
use Rattle.py_tree.specs.Statements.{Statement, Block, Handlers, Taker, Parameter}
use Rattle.py_world.specs.py_items.declared.iter.IterAt.{IterAt}
use Rattle.py_world.specs.World.{Kinds}

-- what is done with the value that a `yield` is given: nothing, it is assigned to targets, or it is returned
pub data Use : Type 0 where
  NoUse : Use
  Targets : List Taker → Use
  ReturnIt : Use

-- what stands behind a statement in one of the blocks around it, in code whose asserts are explained or not: statements, or the
-- handlers of a `try` on a line, with the statements behind `else` and behind `finally`; and first, behind a `yield`, the use of what
-- it is given
pub data SourceLayer : Type 0 where
  Statements : Bool → List Statement → SourceLayer
  Guard : Bool → ℕ → Handlers → List Statement → List Statement → SourceLayer
  Receives : Use → SourceLayer

-- a statement with what stands behind it, the innermost block first, or a turn of a `while` or of a `for` at a place, in code whose
-- asserts are explained or not
pub data SourceTurn : Type 0 where
  StatementOf : Bool → List SourceLayer → Statement → SourceTurn
  TurnOf : Bool → Tree → Block → SourceTurn
  ForOf : Bool → Taker → Block → IterAt → SourceTurn

-- a source's code: its statements, and whether its asserts are explained
pub record Script : Type 0 where
  pub explains : Bool
  pub body : Block

-- a function: whether its asserts are explained, its name, its parameters and its body
pub record Function : Type 0 where
  pub explains : Bool
  pub name : List ℕ
  pub params : List Parameter
  pub body : Block

abbrev pub source_kinds : Kinds
source_kinds = record { code = Function; script = Script; rest = List SourceLayer; turn = SourceTurn }
