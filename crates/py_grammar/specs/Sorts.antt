-- The values between the parts of statements, and the lines of statements.
use Rattle.std.specs.Prelude.{ℕ, ◌+◌, max, Bool, true, false, List, [], ◌∷◌, ◌++◌, Option, Some, None}
use Rattle.py_source.specs.declared.pos.Pos.{Pos}
use Rattle.py_tree.specs.declared.op.BinOp.{BinOp}
use Rattle.py_tree.specs.declared.stmt.Alias.{Alias}
use Rattle.py_tree.specs.Trees.{Tree, Trees, Maybe}
use Rattle.py_tree.specs.Statements.{Place, Taker, Parameter, Parameter_at, Statement, Block, Branches, Handlers, Next, Branch, Handler, Do, Assign}
use Rattle.py_expressions.specs.Values.{place_in, taker_in}
use Rattle.py_expressions.specs.Sorts as e
use Rattle.py_grammar.specs.Depth.{block_depth, block_depths, block_depths_of, handler_depths}

-- The targets that what stands last makes, behind those before it, if it is a target
abbrev pub next_target : Pos → List Taker → Option Taker → Option (Pos × List Taker)
next_target at ts None = None
next_target at ts (Some t) = Some (at, ts ++ t ∷ [])

abbrev pub targets_in : Statement → Option (Pos × List Taker)
targets_in (Do at e) = next_target at [] (taker_in e)
targets_in (Assign at ts e) = next_target at ts (taker_in e)
targets_in _ = None

-- the place of an augmented assignment, if it is one
abbrev pub at_place : Pos → Option Place → Option (Pos × Place)
at_place at None = None
at_place at (Some p) = Some (at, p)

abbrev pub changed_in : Statement → Option (Pos × Place)
changed_in (Do at e) = at_place at (place_in e)
changed_in _ = None

-- names that are imported, and whether a comma stands at the end
pub record Listing : Type 0 where
  pub at : Pos
  pub from : List (List ℕ)
  pub all : List Alias
  pub ended : Bool

abbrev pub with_alias : Listing → Pos → List ℕ → Option (List ℕ) → Listing
with_alias l at name alias = record { at = l.at; from = l.from; all = l.all ++ record { at = at; name = name; alias = alias } ∷ []; ended = false }

-- statements in a row, and whether ";" stands at the end
pub record Run : Type 0 where
  pub all : Block
  pub ended : Bool

abbrev pub one_more : Run → Statement → Run
one_more r s = record { all = Next r.all s; ended = false }

-- an `if` where a branch begins: where it stands, the branches before, and where this one begins
pub record Opening : Type 0 where
  pub at : Pos
  pub before : Branches
  pub here : Pos

-- an `if` with a branch at least, the last apart
pub record Choice : Type 0 where
  pub at : Pos
  pub before : Branches
  pub here : Pos
  pub test : Tree
  pub body : Block

abbrev pub branches_of : Choice → Branches
branches_of c = Branch c.before c.here c.test c.body

-- a `with`: where it stands, its context and its name
pub record Context : Type 0 where
  pub at : Pos
  pub of : Tree
  pub name : Option (List ℕ)

-- a `try` behind its first block
pub record Attempt : Type 0 where
  pub at : Pos
  pub tried : Block
  pub handlers : Handlers

-- a handler before its block
pub record Catch : Type 0 where
  pub of : Attempt
  pub here : Pos
  pub class : Maybe
  pub name : Option (List ℕ)

abbrev pub caught : Catch → Block → Attempt
caught c b = record { at = c.of.at; tried = c.of.tried; handlers = Handler c.of.handlers c.here c.class c.name b }

-- a definition: where it begins, its decorators, where its word stands
pub record DefinitionStart : Type 0 where
  pub at : Pos
  pub decorators : Trees
  pub word : Pos

-- the head of a function: its name and parameters, and whether a comma stands at their end
pub record Head : Type 0 where
  pub begun : DefinitionStart
  pub name : List ℕ
  pub params : List Parameter
  pub ended : Bool

-- a parameter behind those before it, and its annotation
pub record Param : Type 0 where
  pub head : Head
  pub at : Pos
  pub name : List ℕ

abbrev pub with_param : Param × Maybe → Maybe → Head
with_param p d = record { begun = p.0.head.begun; name = p.0.head.name; params = p.0.head.params ++ Parameter_at p.0.at p.0.name p.1 d ∷ []; ended = false }

abbrev pub end_params : Head → Head
end_params h = record { begun = h.begun; name = h.name; params = h.params; ended = true }

pub data BlockSort : Type 0 where
  nothing : BlockSort
  position : BlockSort
  twice : BlockSort
  read : e.Sort → BlockSort
  plain : BlockSort
  targeted : BlockSort
  changing : BlockSort
  change : BlockSort
  yielding : BlockSort
  tested : BlockSort
  names : BlockSort
  listing : BlockSort
  aliasing : BlockSort
  statement : BlockSort
  run : BlockSort
  block : BlockSort
  opening : BlockSort
  testing : BlockSort
  choice : BlockSort
  repeated : BlockSort
  aiming : BlockSort
  looped : BlockSort
  looping : BlockSort
  context : BlockSort
  holding : BlockSort
  attempt : BlockSort
  catching : BlockSort
  classing : BlockSort
  catch : BlockSort
  begun : BlockSort
  decor : BlockSort
  head : BlockSort
  param : BlockSort
  function : BlockSort
  titled : BlockSort
  maybe : BlockSort
  classed : BlockSort
  -- two values
  both : BlockSort → BlockSort → BlockSort

abbrev pub BlockValue : BlockSort → Type 0
BlockValue nothing = Unit {0}
BlockValue position = Pos
BlockValue twice = Pos × Pos
BlockValue (read S) = e.El S × ℕ
BlockValue plain = Statement
BlockValue targeted = Pos × List Taker
BlockValue changing = Pos × Place
BlockValue change = (Pos × Place) × BinOp
BlockValue yielding = (Pos × List Taker) × Pos
BlockValue tested = Pos × Tree
BlockValue names = Pos × List (List ℕ)
BlockValue listing = Listing
BlockValue aliasing = Listing × Pos × List ℕ
BlockValue statement = Statement
BlockValue run = Run
BlockValue block = Block
BlockValue opening = Opening
BlockValue testing = Opening × Tree
BlockValue choice = Choice
BlockValue repeated = (Pos × Tree) × Block
BlockValue aiming = Pos × Taker
BlockValue looped = (Pos × Taker) × Tree
BlockValue looping = ((Pos × Taker) × Tree) × Block
BlockValue context = Context
BlockValue holding = Context × Block
BlockValue attempt = Attempt
BlockValue catching = Attempt × Pos
BlockValue classing = (Attempt × Pos) × Tree
BlockValue catch = Catch
BlockValue begun = DefinitionStart
BlockValue decor = Pos × Trees
BlockValue head = Head
BlockValue param = Param
BlockValue function = (Head × Maybe) × Block
BlockValue titled = DefinitionStart × List ℕ
BlockValue maybe = Maybe
BlockValue classed = ((DefinitionStart × List ℕ) × Maybe) × Block
BlockValue (both S T) = BlockValue S × BlockValue T

-- How high a value is, in levels of blocks: a statement without blocks is 1 high, and statements in a row are as high as the highest.
abbrev pub attempt_size : Attempt → ℕ
attempt_size a = max (1 + block_depths a.tried) (handler_depths a.handlers)

abbrev pub block_height : (S : BlockSort) → BlockValue S → ℕ
block_height nothing x = 0
block_height position x = 0
block_height twice x = 0
block_height (read S) x = 0
block_height plain x = block_depth x
block_height targeted x = 0
block_height changing x = 0
block_height change x = 0
block_height yielding x = 0
block_height tested x = 0
block_height names x = 0
block_height listing x = 0
block_height aliasing x = 0
block_height statement x = 1 + block_depth x
block_height run x = 1 + block_depths x.all
block_height block x = 1 + block_depths x
block_height opening x = block_depths_of x.before
block_height testing x = block_depths_of x.0.before
block_height choice x = max (block_depths_of x.before) (1 + block_depths x.body)
block_height repeated x = 1 + block_depths x.1
block_height aiming x = 0
block_height looped x = 0
block_height looping x = 1 + block_depths x.1
block_height context x = 0
block_height holding x = 1 + block_depths x.1
block_height attempt x = attempt_size x
block_height catching x = attempt_size x.0
block_height classing x = attempt_size x.0.0
block_height catch x = attempt_size x.of
block_height begun x = 0
block_height decor x = 0
block_height head x = 0
block_height param x = 0
block_height function x = 1 + block_depths x.1
block_height titled x = 0
block_height maybe x = 0
block_height classed x = 1 + block_depths x.1
block_height (both S T) x = max (block_height S x.0) (block_height T x.1)

pub data BlockName : Type 0 where
  simple : BlockName
  simples : BlockName
  stmt : BlockName
  stmts : BlockName
  body : BlockName
  source : BlockName

-- what a line reads
abbrev pub block_sort : BlockName → BlockSort
block_sort simple = statement
block_sort simples = block
block_sort stmt = block
block_sort stmts = block
block_sort body = block
block_sort source = block

-- each line is made of those before it, and of blocks one level deeper
abbrev pub block_rank : BlockName → ℕ
block_rank simple = 0
block_rank simples = 1
block_rank stmt = 2
block_rank stmts = 3
block_rank body = 4
block_rank source = 5
