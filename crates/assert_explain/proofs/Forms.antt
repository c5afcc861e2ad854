-- What is shown of a part, form by form.
use Rattle.std.proofs.Common.{◌≡◌, ◌∙◌, ◌+◌, ◌++◌, ℕ, ℤ, suc, List, ◌∷◌, Option, codes, sym, ap, arith}
use Rattle.std.specs.declared.alloc.Global.{Global}
use Rattle.std.specs.declared.rc.Rc.{Rc}
use Rattle.std.specs.declared.vec.Vec.{Vec}
use Rattle.py_source.specs.declared.pos.Pos.{Pos}
use Rattle.py_tree.specs.declared.expr.ArgName.{ArgName}
use Rattle.py_tree.specs.declared.expr.Expr.{Expr}
use Rattle.py_tree.specs.declared.expr.ExprKind.{ExprKind}
use Rattle.py_tree.specs.declared.expr.ExprKind.TheVariants as v
use Rattle.py_tree.specs.declared.op.BinOp.{BinOp}
use Rattle.py_tree.specs.declared.op.CmpOp.{CmpOp}
use Rattle.py_tree.specs.declared.op.UnOp.{UnOp}
use Rattle.py_tree.specs.Trees.{Trees, Empty, tree, tree_at, trees, trees_on}
use Rattle.py_tree.specs.declared.expr.ExprKind.TheBlock.{hidden-the_row-ExprKind-Tuple-0-1-0 as hide}
use Rattle.py_tree.proofs.Rows.{trees_hidden}
use Rattle.py_ops.specs.Binary.{binary_text}
use Rattle.py_ops.specs.Unary.{unary_text}
use Rattle.py_values.specs.declared.object.Obj.{Obj}
use Rattle.py_world.specs.World.{Temps}
use Rattle.py_world.specs.Explained.{Explanation, joined_shows, kept_count, last_pair, leaf_show, named_shows, pair_shows, show_all, show_evaluated, show_part, shows}
use Rattle.assert_explain.specs.Texts.{attribute_show, call_with, in_parens, name_show}

abbrev Exprs : Type 0
Exprs = Rc (Vec (Rc Expr Global) Global) Global

module _ (heap : List Obj) (kept : Temps) (n : ℕ) (at : Pos) (kind : ExprKind) (s : Explanation) where
  pub number_shown : (z : ℤ) → kind ≡ v.Number z → s ≡ leaf_show heap kept n → s ≡ show_part heap kept n (tree_at at kind)
  number_shown z is h = rw is h

  pub text_shown : (text : List ℕ) → kind ≡ v.Text text → s ≡ leaf_show heap kept n → s ≡ show_part heap kept n (tree_at at kind)
  text_shown text is h = rw is h

  pub true_shown : kind ≡ v.True → s ≡ leaf_show heap kept n → s ≡ show_part heap kept n (tree_at at kind)
  true_shown is h = rw is h

  pub false_shown : kind ≡ v.False → s ≡ leaf_show heap kept n → s ≡ show_part heap kept n (tree_at at kind)
  false_shown is h = rw is h

  pub none_shown : kind ≡ v.None → s ≡ leaf_show heap kept n → s ≡ show_part heap kept n (tree_at at kind)
  none_shown is h = rw is h

  pub tuple_shown : (es : Exprs) → kind ≡ v.Tuple es → s ≡ leaf_show heap kept n → s ≡ show_part heap kept n (tree_at at kind)
  tuple_shown es is h = rw is h

  pub list_shown : (es : Exprs) → kind ≡ v.List es → s ≡ leaf_show heap kept n → s ≡ show_part heap kept n (tree_at at kind)
  list_shown es is h = rw is h

  pub dict_shown : (ks es : Exprs) → kind ≡ v.Dict ks es → s ≡ leaf_show heap kept n → s ≡ show_part heap kept n (tree_at at kind)
  dict_shown ks es is h = rw is h

  pub subscript_shown : (a i : Rc Expr Global) → kind ≡ v.Subscript a i → s ≡ leaf_show heap kept n → s ≡ show_part heap kept n (tree_at at kind)
  subscript_shown a i is h = rw is h

  pub slice_shown : (a : Rc Expr Global) (from to by : Option (Rc Expr Global)) → kind ≡ v.Slice a from to by → s ≡ leaf_show heap kept n → s ≡ show_part heap kept n (tree_at at kind)
  slice_shown a from to by is h = rw is h

  pub choice_shown : (a c o : Rc Expr Global) → kind ≡ v.IfElse a c o → s ≡ leaf_show heap kept n → s ≡ show_part heap kept n (tree_at at kind)
  choice_shown a c o is h = rw is h

  pub name_shown : (name : List ℕ) → kind ≡ v.Name name → s ≡ name_show heap kept n name → s ≡ show_part heap kept n (tree_at at kind)
  name_shown name is h = rw is h

  pub paren_shown : (a : Rc Expr Global) → kind ≡ v.Paren a → s ≡ show_part heap kept n (tree a.value) → s ≡ show_part heap kept n (tree_at at kind)
  paren_shown a is h = rw is h

  pub attribute_shown : (a : Rc Expr Global) (name : List ℕ) → kind ≡ v.Attribute a name → s ≡ attribute_show heap kept n (tree a.value) name → s ≡ show_part heap kept n (tree_at at kind)
  attribute_shown a name is h = rw is h

  pub unary_shown : (op : UnOp) (a : Rc Expr Global) (one : Explanation) → kind ≡ v.Unary op a → one ≡ show_part heap kept n (tree a.value) → s ≡ shows (unary_text op ++ one.text) one.facts
      → s ≡ show_part heap kept n (tree_at at kind)
  unary_shown op a one is h e = rw is (e ∙ ap (λ (x : Explanation). shows (unary_text op ++ x.text) x.facts) h)

  pub not_shown : (a : Rc Expr Global) (one : Explanation) → kind ≡ v.Not a → one ≡ show_part heap kept n (tree a.value) → s ≡ shows (codes "not " ++ one.text) one.facts
      → s ≡ show_part heap kept n (tree_at at kind)
  not_shown a one is h e = rw is (e ∙ ap (λ (x : Explanation). shows (codes "not " ++ x.text) x.facts) h)

  pub binary_shown : (a : Rc Expr Global) (op : BinOp) (r : Rc Expr Global) (left : Explanation) (next : ℕ) → kind ≡ v.Binary a op r → left ≡ show_part heap kept n (tree a.value) → next ≡ n + kept_count (tree a.value)
      → s ≡ in_parens (pair_shows (binary_text op) left (show_part heap kept next (tree r.value))) → s ≡ show_part heap kept n (tree_at at kind)
  binary_shown a op r left next is e f h =
      rw is (h ∙ ap (λ (x : Explanation). in_parens (pair_shows (binary_text op) x (show_part heap kept next (tree r.value)))) e
      ∙ ap (λ (k : ℕ). in_parens (pair_shows (binary_text op) (show_part heap kept n (tree a.value)) (show_part heap kept k (tree r.value)))) f)

  module _ (a : Rc Expr Global) (es : Exprs) where
    pub call_shown : (names : Rc (Vec (Option ArgName) Global) Global) (callee given : Explanation) (next behind : ℕ) → kind ≡ v.Call a es names → next ≡ n + 1 → callee ≡ show_part heap kept next (tree a.value)
        → behind ≡ next + kept_count (tree a.value) → given ≡ joined_shows (codes ", ") (named_shows names.value.items (show_all heap kept behind (trees es.value.items)))
        → s ≡ call_with heap kept n callee given → s ≡ show_part heap kept n (tree_at at kind)
    call_shown names callee given next behind is e1 e2 e3 e4 h =
        let e : next ≡ suc n = omega arith in
        let callee' : callee ≡ show_part heap kept (suc n) (tree a.value) = e2 ∙ ap (λ (k : ℕ). show_part heap kept k (tree a.value)) e in
        let behind' : behind ≡ suc n + kept_count (tree a.value) = e3 ∙ ap (λ (k : ℕ). k + kept_count (tree a.value)) e in
        let given' : given ≡ joined_shows (codes ", ") (named_shows names.value.items (show_all heap kept (suc n + kept_count (tree a.value)) (trees_on Empty (hide es.value)))) =
        e4 ∙ ap (λ (k : ℕ). joined_shows (codes ", ") (named_shows names.value.items (show_all heap kept k (trees es.value.items)))) behind'
        ∙ ap (λ (ts : Trees). joined_shows (codes ", ") (named_shows names.value.items (show_all heap kept (suc n + kept_count (tree a.value)) ts))) (sym (trees_hidden es.value)) in
        rw is (h ∙ ap (λ (x : Explanation). call_with heap kept n x given) callee' ∙ ap (λ (x : Explanation). call_with heap kept n (show_part heap kept (suc n) (tree a.value)) x) given')

    module _ (first : Explanation) (next : ℕ) (shown : first ≡ show_part heap kept n (tree a.value)) (place : next ≡ n + kept_count (tree a.value)) where
      pub compare_shown : (ops : Rc (Vec CmpOp Global) Global) → kind ≡ v.Compare a ops es → s ≡ last_pair heap kept next first ops.value.items (trees es.value.items)
          → s ≡ show_part heap kept n (tree_at at kind)
      compare_shown ops is h =
          rw is (h ∙ ap (λ (x : Explanation). last_pair heap kept next x ops.value.items (trees es.value.items)) shown
          ∙ ap (λ (k : ℕ). last_pair heap kept k (show_part heap kept n (tree a.value)) ops.value.items (trees es.value.items)) place
          ∙ ap (λ (ts : Trees). last_pair heap kept (n + kept_count (tree a.value)) (show_part heap kept n (tree a.value)) ops.value.items ts) (sym (trees_hidden es.value)))

      operands : (word : List ℕ) → s ≡ in_parens (joined_shows word (first ∷ show_evaluated heap kept next (trees es.value.items)))
          → s ≡ in_parens (joined_shows word (show_part heap kept n (tree a.value) ∷ show_evaluated heap kept (n + kept_count (tree a.value)) (trees_on Empty (hide es.value))))
      operands word h =
          h ∙ ap (λ (x : Explanation). in_parens (joined_shows word (x ∷ show_evaluated heap kept next (trees es.value.items)))) shown
          ∙ ap (λ (k : ℕ). in_parens (joined_shows word (show_part heap kept n (tree a.value) ∷ show_evaluated heap kept k (trees es.value.items)))) place
          ∙ ap (λ (ts : Trees). in_parens (joined_shows word (show_part heap kept n (tree a.value) ∷ show_evaluated heap kept (n + kept_count (tree a.value)) ts))) (sym (trees_hidden es.value))

      pub and_shown : kind ≡ v.And a es → s ≡ in_parens (joined_shows (codes " and ") (first ∷ show_evaluated heap kept next (trees es.value.items))) → s ≡ show_part heap kept n (tree_at at kind)
      and_shown is h = rw is (operands (codes " and ") h)

      pub or_shown : kind ≡ v.Or a es → s ≡ in_parens (joined_shows (codes " or ") (first ∷ show_evaluated heap kept next (trees es.value.items))) → s ≡ show_part heap kept n (tree_at at kind)
      or_shown is h = rw is (operands (codes " or ") h)

pub ruleset shown_by_form = (number_shown, text_shown, true_shown, false_shown, none_shown, tuple_shown, list_shown, dict_shown, subscript_shown, slice_shown, choice_shown, name_shown, paren_shown, attribute_shown, unary_shown, not_shown, binary_shown)
