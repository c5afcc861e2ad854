-- The trees of statements without where they lie in memory. Two statements are the same where their trees are. Lists grow at the end.
use Rattle.std.specs.Prelude.{ℕ, List, [], ◌∷◌, Option}
use Rattle.py_source.specs.declared.pos.Pos.{Pos}
use Rattle.py_tree.specs.Trees.{Tree, Trees, Maybe, tree, trees, some_tree}
use Rattle.py_tree.specs.declared.op.BinOp.{BinOp}
use Rattle.py_tree.specs.declared.stmt.Alias.{Alias}
use Rattle.py_tree.specs.declared.stmt.Param.{Param}
use Rattle.py_tree.specs.declared.stmt.Target.{Target}
use Rattle.py_tree.specs.declared.stmt.Target.TheVariants as target
use Rattle.py_tree.specs.declared.stmt.Single.{Single}
use Rattle.py_tree.specs.declared.stmt.SingleKind.{SingleKind}
use Rattle.py_tree.specs.declared.stmt.SingleKind.TheVariants as single
use Rattle.py_tree.specs.declared.stmt.Module.{Module}
use Rattle.py_tree.specs.declared.stmt.Stmt.{Stmt}
use Rattle.py_tree.specs.declared.stmt.Function as function
use Rattle.py_tree.specs.declared.stmt.Class as class
use Rattle.py_tree.specs.declared.stmt.Branch as branch
use Rattle.py_tree.specs.declared.stmt.Handler as handler
use Rattle.py_tree.specs.declared.stmt.StmtKind as f
use Rattle.py_tree.specs.declared.stmt.StmtKind.{StmtKind, Row_of-Stmt, end_of-Stmt, more_of-Stmt, Row_of-Branch, end_of-Branch, more_of-Branch, Row_of-Handler, end_of-Handler, more_of-Handler}
use Rattle.py_tree.specs.declared.stmt.StmtKind.TheVariants as v

-- what takes one value
pub data Place : Type 0 where
  NamePlace : Pos → List ℕ → Place
  AttributePlace : Pos → Tree → List ℕ → Place
  SubscriptPlace : Pos → Tree → Tree → Place

-- what takes a value: a place, or places for the parts of the value
pub data Taker : Type 0 where
  One : Place → Taker
  Unpack : List Place → Taker

-- a parameter, its annotation and its default
pub data Parameter : Type 0 where
  Parameter_at : Pos → List ℕ → Maybe → Maybe → Parameter

mutual
  pub data Statement : Type 0 where
    Do : Pos → Tree → Statement
    Assign : Pos → List Taker → Tree → Statement
    AssignYield : Pos → List Taker → Pos → Maybe → Statement
    AugAssign : Pos → Place → BinOp → Tree → Statement
    Return : Pos → Maybe → Statement
    ReturnYield : Pos → Pos → Maybe → Statement
    Raise : Pos → Maybe → Statement
    Assert : Pos → Tree → Maybe → Statement
    Del : Pos → Place → Statement
    GlobalOf : Pos → List (List ℕ) → Statement
    Pass : Pos → Statement
    Break : Pos → Statement
    Continue : Pos → Statement
    YieldOf : Pos → Pos → Maybe → Statement
    Import : Pos → List (List ℕ) → Option (List ℕ) → Statement
    ImportFrom : Pos → List (List ℕ) → List Alias → Statement
    If : Pos → Branches → Block → Statement
    While : Pos → Tree → Block → Statement
    For : Pos → Taker → Tree → Block → Statement
    Try : Pos → Block → Handlers → Block → Block → Statement
    With : Pos → Tree → Option (List ℕ) → Block → Statement
    Def : Pos → Trees → Pos → List ℕ → List Parameter → Maybe → Block → Statement
    Class : Pos → Trees → Pos → List ℕ → Maybe → Block → Statement

  pub data Block : Type 0 where
    NoStatement : Block
    Next : Block → Statement → Block

  pub data Branches : Type 0 where
    NoBranch : Branches
    Branch : Branches → Pos → Tree → Block → Branches

  pub data Handlers : Type 0 where
    NoHandler : Handlers
    Handler : Handlers → Pos → Maybe → Option (List ℕ) → Block → Handlers

abbrev pub place_at : Pos → SingleKind → Place
place_at at (single.Name name) = NamePlace at name
place_at at (single.Attribute e name) = AttributePlace at (tree e.value) name
place_at at (single.Subscript e i) = SubscriptPlace at (tree e.value) (tree i.value)

abbrev pub place : Single → Place
place s = place_at s.at s.kind

abbrev pub places : List Single → List Place
places [] = []
places (s ∷ rest) = place s ∷ places rest

abbrev pub taker : Target → Taker
taker (target.Single s) = One (place s)
taker (target.Unpack all) = Unpack (places all.value.items)

abbrev pub takers : List Target → List Taker
takers [] = []
takers (t ∷ rest) = taker t ∷ takers rest

abbrev pub parameter : Param → Parameter
parameter p = Parameter_at p.at p.name (some_tree p.annotation) (some_tree p.default)

abbrev pub parameters : List Param → List Parameter
parameters [] = []
parameters (p ∷ rest) = parameter p ∷ parameters rest

abbrev mutual
  pub statement_at : Pos → StmtKind → Statement
  statement_at at (v.Expr e) = Do at (tree e.value)
  statement_at at (v.Assign ts e) = Assign at (takers ts.value.items) (tree e.value)
  statement_at at (v.AssignYield ts y) = AssignYield at (takers ts.value.items) y.at (some_tree y.value)
  statement_at at (v.AugAssign s op e) = AugAssign at (place s) op (tree e.value)
  statement_at at (v.Return e) = Return at (some_tree e)
  statement_at at (v.ReturnYield y) = ReturnYield at y.at (some_tree y.value)
  statement_at at (v.Raise e) = Raise at (some_tree e)
  statement_at at (v.Assert e m) = Assert at (tree e.value) (some_tree m)
  statement_at at (v.Del s) = Del at (place s)
  statement_at at (v.Global names) = GlobalOf at names.value.items
  statement_at at v.Pass = Pass at
  statement_at at v.Break = Break at
  statement_at at v.Continue = Continue at
  statement_at at (v.Yield y) = YieldOf at y.at (some_tree y.value)
  statement_at at (v.Import names alias) = Import at names.value.items alias
  statement_at at (v.ImportFrom names all) = ImportFrom at names.value.items all.value.items
  statement_at at (f.If' p n branches q m other) = If at (branches_in_row NoBranch branches) (block_on NoStatement other)
  statement_at at (f.While' e p n body) = While at (tree e.value) (block_on NoStatement body)
  statement_at at (f.For' t e p n body) = For at (taker t) (tree e.value) (block_on NoStatement body)
  statement_at at (f.Try' p n body q m handlers r k other s l final) = Try at (block_on NoStatement body) (handlers_in_row NoHandler handlers) (block_on NoStatement other) (block_on NoStatement final)
  statement_at at (f.With' e name p n body) = With at (tree e.value) name (block_on NoStatement body)
  statement_at at (f.Def' p (function.Function' decorators word name params returns q n body)) = Def at (trees decorators.value.items) word name (parameters params.value.items) (some_tree returns) (block_on NoStatement body)
  statement_at at (f.Class' p (class.Class' decorators word name base q n body)) = Class at (trees decorators.value.items) word name (some_tree base) (block_on NoStatement body)

  pub block_on : {m : _} → Block → Row_of-Stmt m → Block
  block_on before end_of-Stmt = before
  block_on before (more_of-Stmt at kind row) = block_on (Next before (statement_at at kind)) row

  pub branches_in_row : {m : _} → Branches → Row_of-Branch m → Branches
  branches_in_row before end_of-Branch = before
  branches_in_row before (more_of-Branch (branch.Branch' at condition p n body) row) = branches_in_row (Branch before at (tree condition.value) (block_on NoStatement body)) row

  pub handlers_in_row : {m : _} → Handlers → Row_of-Handler m → Handlers
  handlers_in_row before end_of-Handler = before
  handlers_in_row before (more_of-Handler (handler.Handler' at class name p n body) row) = handlers_in_row (Handler before at (some_tree class) name (block_on NoStatement body)) row

-- the tree of a statement
abbrev pub statement : Stmt → Statement
statement s = statement_at s.at s.kind

-- the trees of statements, behind those before them
abbrev pub block_behind : Block → List Stmt → Block
block_behind before [] = before
block_behind before (s ∷ rest) = block_behind (Next before (statement s)) rest

abbrev pub block : List Stmt → Block
block stmts = block_behind NoStatement stmts

abbrev pub branches_behind : Branches → List branch.Branch → Branches
branches_behind before [] = before
branches_behind before (branch.Branch' at condition p n body ∷ rest) = branches_behind (Branch before at (tree condition.value) (block_on NoStatement body)) rest

abbrev pub branches : List branch.Branch → Branches
branches all = branches_behind NoBranch all

abbrev pub handlers_behind : Handlers → List handler.Handler → Handlers
handlers_behind before [] = before
handlers_behind before (handler.Handler' at class name p n body ∷ rest) = handlers_behind (Handler before at (some_tree class) name (block_on NoStatement body)) rest

abbrev pub handlers : List handler.Handler → Handlers
handlers all = handlers_behind NoHandler all

-- the tree of a source
abbrev pub module_tree : Module → Block
module_tree m = block m.body.value.items
