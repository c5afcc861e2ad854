-- Whether a part was evaluated, form by form.
use Rattle.std.proofs.Common.{◌≡◌, ℕ, ℤ, List, [], Bool, Option, refl}
use Rattle.std.specs.Prelude.{is_some}
use Rattle.std.specs.declared.alloc.Global.{Global}
use Rattle.std.specs.declared.rc.Rc.{Rc}
use Rattle.std.specs.declared.vec.Vec.{Vec}
use Rattle.py_source.specs.declared.pos.Pos.{Pos}
use Rattle.py_tree.specs.declared.expr.ArgName.{ArgName}
use Rattle.py_tree.specs.declared.expr.Expr.{Expr}
use Rattle.py_tree.specs.declared.expr.ExprKind.{ExprKind}
use Rattle.py_tree.specs.declared.expr.ExprKind.TheVariants as v
use Rattle.py_tree.specs.declared.op.BinOp.{BinOp}
use Rattle.py_tree.specs.declared.op.CmpOp.{CmpOp}
use Rattle.py_tree.specs.declared.op.UnOp.{UnOp}
use Rattle.py_tree.specs.Trees as t
use Rattle.py_tree.specs.Trees.{Tree, tree, tree_at}
use Rattle.py_values.specs.declared.object.Obj.{Obj}
use Rattle.py_world.specs.World.{Temps}
use Rattle.py_world.specs.Explained.{evaluated, kept_value}

abbrev Exprs : Type 0
Exprs = Rc (Vec (Rc Expr Global) Global) Global

module _ (kept : Temps) (n : ℕ) (at : Pos) (kind : ExprKind) (b : Bool) where
  pub name_evaluated : (name : List ℕ) → kind ≡ v.Name name → b ≡ is_some (kept_value [] kept n) → b ≡ evaluated [] kept n (tree_at at kind)
  name_evaluated name is h = rw is h

  pub number_evaluated : (z : ℤ) → kind ≡ v.Number z → b ≡ is_some (kept_value [] kept n) → b ≡ evaluated [] kept n (tree_at at kind)
  number_evaluated z is h = rw is h

  pub text_evaluated : (text : List ℕ) → kind ≡ v.Text text → b ≡ is_some (kept_value [] kept n) → b ≡ evaluated [] kept n (tree_at at kind)
  text_evaluated text is h = rw is h

  pub true_evaluated : kind ≡ v.True → b ≡ is_some (kept_value [] kept n) → b ≡ evaluated [] kept n (tree_at at kind)
  true_evaluated is h = rw is h

  pub false_evaluated : kind ≡ v.False → b ≡ is_some (kept_value [] kept n) → b ≡ evaluated [] kept n (tree_at at kind)
  false_evaluated is h = rw is h

  pub none_evaluated : kind ≡ v.None → b ≡ is_some (kept_value [] kept n) → b ≡ evaluated [] kept n (tree_at at kind)
  none_evaluated is h = rw is h

  pub tuple_evaluated : (es : Exprs) → kind ≡ v.Tuple es → b ≡ is_some (kept_value [] kept n) → b ≡ evaluated [] kept n (tree_at at kind)
  tuple_evaluated es is h = rw is h

  pub list_evaluated : (es : Exprs) → kind ≡ v.List es → b ≡ is_some (kept_value [] kept n) → b ≡ evaluated [] kept n (tree_at at kind)
  list_evaluated es is h = rw is h

  pub dict_evaluated : (ks es : Exprs) → kind ≡ v.Dict ks es → b ≡ is_some (kept_value [] kept n) → b ≡ evaluated [] kept n (tree_at at kind)
  dict_evaluated ks es is h = rw is h

  pub subscript_evaluated : (a i : Rc Expr Global) → kind ≡ v.Subscript a i → b ≡ is_some (kept_value [] kept n) → b ≡ evaluated [] kept n (tree_at at kind)
  subscript_evaluated a i is h = rw is h

  pub slice_evaluated : (a : Rc Expr Global) (from to by : Option (Rc Expr Global)) → kind ≡ v.Slice a from to by → b ≡ is_some (kept_value [] kept n) → b ≡ evaluated [] kept n (tree_at at kind)
  slice_evaluated a from to by is h = rw is h

  pub choice_evaluated : (a c o : Rc Expr Global) → kind ≡ v.IfElse a c o → b ≡ is_some (kept_value [] kept n) → b ≡ evaluated [] kept n (tree_at at kind)
  choice_evaluated a c o is h = rw is h

  pub call_evaluated : (a : Rc Expr Global) (es : Exprs) (names : Rc (Vec (Option ArgName) Global) Global) → kind ≡ v.Call a es names → b ≡ is_some (kept_value [] kept n) → b ≡ evaluated [] kept n (tree_at at kind)
  call_evaluated a es names is h = rw is h

  pub attribute_evaluated : (a : Rc Expr Global) (name : List ℕ) → kind ≡ v.Attribute a name → b ≡ is_some (kept_value [] kept n) → b ≡ evaluated [] kept n (tree_at at kind)
  attribute_evaluated a name is h = rw is h

  pub paren_evaluated : (a : Rc Expr Global) → kind ≡ v.Paren a → b ≡ evaluated [] kept n (tree a.value) → b ≡ evaluated [] kept n (tree_at at kind)
  paren_evaluated a is h = rw is h

  pub unary_evaluated : (op : UnOp) (a : Rc Expr Global) → kind ≡ v.Unary op a → b ≡ evaluated [] kept n (tree a.value) → b ≡ evaluated [] kept n (tree_at at kind)
  unary_evaluated op a is h = rw is h

  pub not_evaluated : (a : Rc Expr Global) → kind ≡ v.Not a → b ≡ evaluated [] kept n (tree a.value) → b ≡ evaluated [] kept n (tree_at at kind)
  not_evaluated a is h = rw is h

  pub binary_evaluated : (a : Rc Expr Global) (op : BinOp) (r : Rc Expr Global) → kind ≡ v.Binary a op r → b ≡ evaluated [] kept n (tree a.value) → b ≡ evaluated [] kept n (tree_at at kind)
  binary_evaluated a op r is h = rw is h

  pub compare_evaluated : (a : Rc Expr Global) (ops : Rc (Vec CmpOp Global) Global) (es : Exprs) → kind ≡ v.Compare a ops es → b ≡ evaluated [] kept n (tree a.value) → b ≡ evaluated [] kept n (tree_at at kind)
  compare_evaluated a ops es is h = rw is h

  pub and_evaluated : (a : Rc Expr Global) (es : Exprs) → kind ≡ v.And a es → b ≡ evaluated [] kept n (tree a.value) → b ≡ evaluated [] kept n (tree_at at kind)
  and_evaluated a es is h = rw is h

  pub or_evaluated : (a : Rc Expr Global) (es : Exprs) → kind ≡ v.Or a es → b ≡ evaluated [] kept n (tree a.value) → b ≡ evaluated [] kept n (tree_at at kind)
  or_evaluated a es is h = rw is h

pub ruleset evaluations = (name_evaluated, number_evaluated, text_evaluated, true_evaluated, false_evaluated, none_evaluated, tuple_evaluated, list_evaluated, dict_evaluated, subscript_evaluated, slice_evaluated, choice_evaluated, call_evaluated, attribute_evaluated, paren_evaluated, unary_evaluated, not_evaluated, binary_evaluated, compare_evaluated, and_evaluated, or_evaluated)

-- the objects say nothing of it
pub heap_aside : (heap : List Obj) (kept : Temps) (n : ℕ) (e : Tree) → evaluated heap kept n e ≡ evaluated [] kept n e
heap_aside heap kept n (t.Name at name) = refl
heap_aside heap kept n (t.Number at z) = refl
heap_aside heap kept n (t.Text at text) = refl
heap_aside heap kept n (t.True at) = refl
heap_aside heap kept n (t.False at) = refl
heap_aside heap kept n (t.NoneTree at) = refl
heap_aside heap kept n (t.Tuple at es) = refl
heap_aside heap kept n (t.Listed at es) = refl
heap_aside heap kept n (t.Dict at ks es) = refl
heap_aside heap kept n (t.Subscript at e i) = refl
heap_aside heap kept n (t.Slice at e from to by) = refl
heap_aside heap kept n (t.IfElse at e c o) = refl
heap_aside heap kept n (t.Call at e es names) = refl
heap_aside heap kept n (t.Attribute at e name) = refl
heap_aside heap kept n (t.Paren at e) = heap_aside heap kept n e
heap_aside heap kept n (t.Unary at op e) = heap_aside heap kept n e
heap_aside heap kept n (t.Not at e) = heap_aside heap kept n e
heap_aside heap kept n (t.Binary at e op r) = heap_aside heap kept n e
heap_aside heap kept n (t.Compare at e ops es) = heap_aside heap kept n e
heap_aside heap kept n (t.And at e es) = heap_aside heap kept n e
heap_aside heap kept n (t.Or at e es) = heap_aside heap kept n e
