-- How many parts of an expression are kept, form by form.
use Rattle.std.proofs.Common.{◌≡◌, ◌+◌, ℕ, ℤ, suc, List, [], ◌∷◌, ◌++◌, Option, refl, sym, ap, ◌∙◌, take, length, get_or, ◌<◌, ◌≤◌, arith}
use Rattle.std.proofs.lemmas.List.{take_more, take_all}
use Rattle.std.specs.declared.alloc.Global.{Global}
use Rattle.std.specs.declared.rc.Rc.{Rc}
use Rattle.std.specs.declared.vec.Vec.{Vec}
use Rattle.py_source.specs.declared.pos.Pos.{Pos}
use Rattle.py_tree.specs.declared.expr.ArgName.{ArgName}
use Rattle.py_tree.specs.declared.expr.Expr.{Expr}
use Rattle.py_tree.specs.declared.expr.ExprKind.{ExprKind}
use Rattle.py_tree.specs.declared.expr.ExprKind.TheVariants as v
use Rattle.py_tree.specs.declared.op.BinOp.{BinOp}
use Rattle.py_tree.specs.declared.op.CmpOp.{CmpOp}
use Rattle.py_tree.specs.declared.op.UnOp.{UnOp}
use Rattle.py_tree.specs.Trees.{Trees, Empty, More, tree, tree_at, trees}
use Rattle.py_tree.proofs.Rows.{trees_hidden, trees_more}
use Rattle.py_world.specs.Explained.{kept_count, kept_count_all}

abbrev Exprs : Type 0
Exprs = Rc (Vec (Rc Expr Global) Global) Global

module _ (at : Pos) (kind : ExprKind) where
  pub name_counts : (name : List ℕ) → kind ≡ v.Name name → 1 ≡ kept_count (tree_at at kind)
  name_counts name is = rw is refl

  pub number_counts : (z : ℤ) → kind ≡ v.Number z → 1 ≡ kept_count (tree_at at kind)
  number_counts z is = rw is refl

  pub text_counts : (text : List ℕ) → kind ≡ v.Text text → 1 ≡ kept_count (tree_at at kind)
  text_counts text is = rw is refl

  pub true_counts : kind ≡ v.True → 1 ≡ kept_count (tree_at at kind)
  true_counts is = rw is refl

  pub false_counts : kind ≡ v.False → 1 ≡ kept_count (tree_at at kind)
  false_counts is = rw is refl

  pub none_counts : kind ≡ v.None → 1 ≡ kept_count (tree_at at kind)
  none_counts is = rw is refl

  pub tuple_counts : (es : Exprs) → kind ≡ v.Tuple es → 1 ≡ kept_count (tree_at at kind)
  tuple_counts es is = rw is refl

  pub list_counts : (es : Exprs) → kind ≡ v.List es → 1 ≡ kept_count (tree_at at kind)
  list_counts es is = rw is refl

  pub dict_counts : (ks es : Exprs) → kind ≡ v.Dict ks es → 1 ≡ kept_count (tree_at at kind)
  dict_counts ks es is = rw is refl

  pub subscript_counts : (a b : Rc Expr Global) → kind ≡ v.Subscript a b → 1 ≡ kept_count (tree_at at kind)
  subscript_counts a b is = rw is refl

  pub slice_counts : (a : Rc Expr Global) (from to by : Option (Rc Expr Global)) → kind ≡ v.Slice a from to by → 1 ≡ kept_count (tree_at at kind)
  slice_counts a from to by is = rw is refl

  pub choice_counts : (a b c : Rc Expr Global) → kind ≡ v.IfElse a b c → 1 ≡ kept_count (tree_at at kind)
  choice_counts a b c is = rw is refl

  module _ (n : ℕ) where
    pub paren_counts : (a : Rc Expr Global) → kind ≡ v.Paren a → n ≡ kept_count (tree a.value) → n ≡ kept_count (tree_at at kind)
    paren_counts a is h = rw is h

    pub unary_counts : (op : UnOp) (a : Rc Expr Global) → kind ≡ v.Unary op a → n ≡ kept_count (tree a.value) → n ≡ kept_count (tree_at at kind)
    unary_counts op a is h = rw is h

    pub not_counts : (a : Rc Expr Global) → kind ≡ v.Not a → n ≡ kept_count (tree a.value) → n ≡ kept_count (tree_at at kind)
    not_counts a is h = rw is h

    pub attribute_counts : (a : Rc Expr Global) (name : List ℕ) (x : ℕ) → kind ≡ v.Attribute a name → n ≡ 1 + x → x ≡ kept_count (tree a.value) → n ≡ kept_count (tree_at at kind)
    attribute_counts a name x is e h = rw is (let f : n ≡ suc x = omega arith in f ∙ ap suc h)

    pub binary_counts : (a b : Rc Expr Global) (op : BinOp) (x y : ℕ) → kind ≡ v.Binary a op b → n ≡ x + y → x ≡ kept_count (tree a.value) → y ≡ kept_count (tree b.value) → n ≡ kept_count (tree_at at kind)
    binary_counts a b op x y is e h g = rw is (rw (e, h, g) refl)

    module _ (a : Rc Expr Global) (es : Exprs) where
      whole : (f : ℕ → ℕ) (ts : Trees) → ts ≡ trees es.value.items → n ≡ f (kept_count (tree a.value) + kept_count_all (trees es.value.items)) → n ≡ f (kept_count (tree a.value) + kept_count_all ts)
      whole f ts is h = h ∙ ap (λ (x : Trees). f (kept_count (tree a.value) + kept_count_all x)) (sym is)

      pub compare_counts : (ops : Rc (Vec CmpOp Global) Global) (x y : ℕ) → kind ≡ v.Compare a ops es → n ≡ x + y → x ≡ kept_count (tree a.value) → y ≡ kept_count_all (trees es.value.items) → n ≡ kept_count (tree_at at kind)
      compare_counts ops x y is e h g = rw is (whole (λ x. x) _ (trees_hidden es.value) (rw (e, h, g) refl))

      pub and_counts : (x y : ℕ) → kind ≡ v.And a es → n ≡ x + y → x ≡ kept_count (tree a.value) → y ≡ kept_count_all (trees es.value.items) → n ≡ kept_count (tree_at at kind)
      and_counts x y is e h g = rw is (whole (λ x. x) _ (trees_hidden es.value) (rw (e, h, g) refl))

      pub or_counts : (x y : ℕ) → kind ≡ v.Or a es → n ≡ x + y → x ≡ kept_count (tree a.value) → y ≡ kept_count_all (trees es.value.items) → n ≡ kept_count (tree_at at kind)
      or_counts x y is e h g = rw is (whole (λ x. x) _ (trees_hidden es.value) (rw (e, h, g) refl))

      pub call_counts : (names : Rc (Vec (Option ArgName) Global) Global) (x y z : ℕ) → kind ≡ v.Call a es names → n ≡ 1 + x → x ≡ y + z → y ≡ kept_count (tree a.value) → z ≡ kept_count_all (trees es.value.items) → n ≡ kept_count (tree_at at kind)
      call_counts names x y z is e f g k = let h : x ≡ kept_count (tree a.value) + kept_count_all (trees es.value.items) = rw (f, g, k) refl in rw is (whole suc _ (trees_hidden es.value) (let i : n ≡ suc x = omega arith in i ∙ ap suc h))

pub ruleset counts = (name_counts, number_counts, text_counts, true_counts, false_counts, none_counts, tuple_counts, list_counts, dict_counts, subscript_counts, slice_counts, choice_counts, paren_counts, unary_counts, not_counts, attribute_counts, binary_counts, compare_counts, and_counts, or_counts, call_counts)

-- one part more
pub trees_one_more : (es : List (Rc Expr Global)) (i : ℕ) (e : Rc Expr Global) → i < length es → e ≡ get_or es i e → trees (take (i + 1) es) ≡ More (trees (take i es)) (tree e.value)
trees_one_more es i e w h = ap trees (take_more es i e w ∙ ap (λ (x : Rc Expr Global). take i es ++ x ∷ []) (sym h)) ∙ trees_more Empty (take i es) e

pub one_more : (es : List (Rc Expr Global)) (i : ℕ) (e : Rc Expr Global) (n m : ℕ) → i < length es → e ≡ get_or es i e → n ≡ kept_count_all (trees (take i es)) → m ≡ n + kept_count (tree e.value) → m ≡ kept_count_all (trees (take (i + 1) es))
one_more es i e n m w h is more = let s : kept_count_all (trees (take (i + 1) es)) ≡ kept_count_all (trees (take i es)) + kept_count (tree e.value) = ap kept_count_all (trees_one_more es i e w h) in omega (arith, s)

pub all_counted : (es : List (Rc Expr Global)) (i n : ℕ) → length es ≤ i → n ≡ kept_count_all (trees (take i es)) → n ≡ kept_count_all (trees es)
all_counted es i n le is = is ∙ ap (λ (xs : List (Rc Expr Global)). kept_count_all (trees xs)) (take_all i es le)
