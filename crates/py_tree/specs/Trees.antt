-- The trees of expressions without where they lie in memory. Two expressions are the same where their trees are. Lists grow at the end.
use Rattle.std.specs.Prelude.{ℕ, ℤ, List, [], ◌∷◌, Option, Some, None}
use Rattle.std.specs.declared.rc.Rc.{Rc}
use Rattle.std.specs.declared.alloc.Global.{Global}
use Rattle.py_source.specs.declared.pos.Pos.{Pos}
use Rattle.py_tree.specs.declared.op.BinOp.{BinOp}
use Rattle.py_tree.specs.declared.op.UnOp.{UnOp}
use Rattle.py_tree.specs.declared.op.CmpOp.{CmpOp}
use Rattle.py_tree.specs.declared.expr.ArgName.{ArgName}
use Rattle.py_tree.specs.declared.expr.Expr.{Expr}
use Rattle.py_tree.specs.declared.expr.ExprKind as f
use Rattle.py_tree.specs.declared.expr.ExprKind.{ExprKind, Row_of-ExprKind-Tuple-0-1 as Row, end_of-ExprKind-Tuple-0-1 as end, more_of-ExprKind-Tuple-0-1 as more, Held-ExprKind-Slice-1 as Held}
use Rattle.py_tree.specs.declared.expr.ExprKind.TheVariants as v

mutual
  pub data Tree : Type 0 where
    Name : Pos → List ℕ → Tree
    Number : Pos → ℤ → Tree
    Text : Pos → List ℕ → Tree
    True : Pos → Tree
    False : Pos → Tree
    NoneTree : Pos → Tree
    Paren : Pos → Tree → Tree
    Tuple : Pos → Trees → Tree
    Listed : Pos → Trees → Tree
    Dict : Pos → Trees → Trees → Tree
    Attribute : Pos → Tree → List ℕ → Tree
    Call : Pos → Tree → Trees → List (Option ArgName) → Tree
    Subscript : Pos → Tree → Tree → Tree
    Slice : Pos → Tree → Maybe → Maybe → Maybe → Tree
    Unary : Pos → UnOp → Tree → Tree
    Binary : Pos → Tree → BinOp → Tree → Tree
    Compare : Pos → Tree → List CmpOp → Trees → Tree
    Not : Pos → Tree → Tree
    And : Pos → Tree → Trees → Tree
    Or : Pos → Tree → Trees → Tree
    IfElse : Pos → Tree → Tree → Tree → Tree

  pub data Trees : Type 0 where
    Empty : Trees
    More : Trees → Tree → Trees

  pub data Maybe : Type 0 where
    Absent : Maybe
    Present : Tree → Maybe

abbrev mutual
  pub tree_at : Pos → ExprKind → Tree
  tree_at at (v.Name name) = Name at name
  tree_at at (v.Number n) = Number at n
  tree_at at (v.Text text) = Text at text
  tree_at at v.True = True at
  tree_at at v.False = False at
  tree_at at v.None = NoneTree at
  tree_at at (f.Paren' p a e) = Paren at (tree_at a e)
  tree_at at (f.Tuple' p n es) = Tuple at (trees_on Empty es)
  tree_at at (f.List' p n es) = Listed at (trees_on Empty es)
  tree_at at (f.Dict' p n ks q m es) = Dict at (trees_on Empty ks) (trees_on Empty es)
  tree_at at (f.Attribute' p a e name) = Attribute at (tree_at a e) name
  tree_at at (f.Call' p a e q n es names) = Call at (tree_at a e) (trees_on Empty es) names.value.items
  tree_at at (f.Subscript' p a e q b i) = Subscript at (tree_at a e) (tree_at b i)
  tree_at at (f.Slice' p a e from to by) = Slice at (tree_at a e) (maybe from) (maybe to) (maybe by)
  tree_at at (f.Unary' op p a e) = Unary at op (tree_at a e)
  tree_at at (f.Binary' p a l op q b r) = Binary at (tree_at a l) op (tree_at b r)
  tree_at at (f.Compare' p a e ops q n es) = Compare at (tree_at a e) ops.value.items (trees_on Empty es)
  tree_at at (f.Not' p a e) = Not at (tree_at a e)
  tree_at at (f.And' p a e q n es) = And at (tree_at a e) (trees_on Empty es)
  tree_at at (f.Or' p a e q n es) = Or at (tree_at a e) (trees_on Empty es)
  tree_at at (f.IfElse' p a e q b c r d o) = IfElse at (tree_at a e) (tree_at b c) (tree_at d o)

  pub trees_on : {m : _} → Trees → Row m → Trees
  trees_on before end = before
  trees_on before (more p a e row) = trees_on (More before (tree_at a e)) row

  pub maybe : Held → Maybe
  maybe f.ExprKind-Slice-1-None' = Absent
  maybe (f.Some' p a e) = Present (tree_at a e)

-- the tree of an expression
abbrev pub tree : Expr → Tree
tree e = tree_at e.at e.kind

-- the trees of expressions, behind those before them
abbrev pub trees_behind : Trees → List (Rc Expr Global) → Trees
trees_behind before [] = before
trees_behind before (e ∷ es) = trees_behind (More before (tree e.value)) es

abbrev pub trees : List (Rc Expr Global) → Trees
trees es = trees_behind Empty es

abbrev pub some_tree : Option (Rc Expr Global) → Maybe
some_tree None = Absent
some_tree (Some e) = Present (tree e.value)
