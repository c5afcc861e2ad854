-- What a node with rows of parts is, and where it begins.
use Rattle.std.proofs.Common.{◌≡◌, refl, ap, ◌∙◌, subst, Vec, Global, Option, Result, IfOk}
use Rattle.std.specs.declared.rc.Rc.{Rc}
use Rattle.py_source.specs.declared.pos.Pos.{Pos}
use Rattle.py_tree.specs.declared.expr.Expr.{Expr}
use Rattle.py_tree.specs.declared.expr.ExprKind as f
use Rattle.py_tree.specs.declared.expr.ExprKind.{ExprKind}
use Rattle.py_tree.specs.declared.expr.ExprKind.TheVariants as v
use Rattle.py_tree.specs.declared.expr.ArgName.{ArgName}
use Rattle.py_tree.specs.declared.op.CmpOp.{CmpOp}
use Rattle.py_tree.specs.Trees.{Tuple, Listed, Dict, Call, Compare, And, Or, Tree, Trees, tree_at, tree, trees}
use Rattle.py_tree.proofs.Rows.{trees_hidden}
use Rattle.py_expressions.specs.Values.{at_of, height}
use Rattle.py_nodes.specs.declared.node.Node.{Node}

at_is : (at : Pos) (kind : ExprKind) → at_of (tree_at at kind) ≡ at
at_is at (v.Name name) = refl
at_is at (v.Number n) = refl
at_is at (v.Text text) = refl
at_is at v.True = refl
at_is at v.False = refl
at_is at v.None = refl
at_is at (f.Paren' p a e) = refl
at_is at (f.Tuple' p n es) = refl
at_is at (f.List' p n es) = refl
at_is at (f.Dict' p n ks q m es) = refl
at_is at (f.Attribute' p a e name) = refl
at_is at (f.Call' p a e q n es names) = refl
at_is at (f.Subscript' p a e q b i) = refl
at_is at (f.Slice' p a e from to by) = refl
at_is at (f.Unary' op p a e) = refl
at_is at (f.Binary' p a l op q b r) = refl
at_is at (f.Compare' p a e ops q n es) = refl
at_is at (f.Not' p a e) = refl
at_is at (f.And' p a e q n es) = refl
at_is at (f.Or' p a e q n es) = refl
at_is at (f.IfElse' p a e q b c r d o) = refl

pub place_is : (e : Expr) → at_of (tree e) ≡ e.at
place_is e = at_is e.at e.kind

pub tuple_is : (at : Pos) (es : Rc (Vec (Rc Expr Global) Global) Global) → tree_at at (v.Tuple es) ≡ Tuple at (trees es.value.items)
tuple_is at es = ap (λ x. Tuple at x) (trees_hidden es.value)

pub list_is : (at : Pos) (es : Rc (Vec (Rc Expr Global) Global) Global) → tree_at at (v.List es) ≡ Listed at (trees es.value.items)
list_is at es = ap (λ x. Listed at x) (trees_hidden es.value)

pub dict_is : (at : Pos) (ks es : Rc (Vec (Rc Expr Global) Global) Global) → tree_at at (v.Dict ks es) ≡ Dict at (trees ks.value.items) (trees es.value.items)
dict_is at ks es = both (trees_hidden ks.value) (trees_hidden es.value)
  where
    both : {a b c d : Trees} → a ≡ b → c ≡ d → Dict at a c ≡ Dict at b d
    both e f = cc

pub call_is : (at : Pos) (f : Rc Expr Global) (es : Rc (Vec (Rc Expr Global) Global) Global) (names : Rc (Vec (Option ArgName) Global) Global) → tree_at at (v.Call f es names) ≡ Call at (tree f.value) (trees es.value.items) names.value.items
call_is at f es names = ap (λ x. Call at (tree f.value) x names.value.items) (trees_hidden es.value)

pub compare_is : (at : Pos) (e : Rc Expr Global) (ops : Rc (Vec CmpOp Global) Global) (es : Rc (Vec (Rc Expr Global) Global) Global) → tree_at at (v.Compare e ops es) ≡ Compare at (tree e.value) ops.value.items (trees es.value.items)
compare_is at e ops es = ap (λ x. Compare at (tree e.value) ops.value.items x) (trees_hidden es.value)

pub and_is : (at : Pos) (e : Rc Expr Global) (es : Rc (Vec (Rc Expr Global) Global) Global) → tree_at at (v.And e es) ≡ And at (tree e.value) (trees es.value.items)
and_is at e es = ap (λ x. And at (tree e.value) x) (trees_hidden es.value)

pub or_is : (at : Pos) (e : Rc Expr Global) (es : Rc (Vec (Rc Expr Global) Global) Global) → tree_at at (v.Or e es) ≡ Or at (tree e.value) (trees es.value.items)
or_is at e es = ap (λ x. Or at (tree e.value) x) (trees_hidden es.value)

tuple_made : (at p : Pos) (es : Rc (Vec (Rc Expr Global) Global) Global) (s : Vec (Rc Expr Global) Global) → at ≡ p → es.value ≡ s → tree_at at (v.Tuple es) ≡ Tuple p (trees s.items)
tuple_made at p es s q e = ap (λ a. tree_at a (v.Tuple es)) q ∙ tuple_is p es ∙ ap (λ (x : Vec (Rc Expr Global) Global). Tuple p (trees x.items)) e

pub tuple_kept : {E : Type 0} (r : Result Node E) (at p : Pos) (es : Rc (Vec (Rc Expr Global) Global) Global) (s : Vec (Rc Expr Global) Global) → at ≡ p → es.value ≡ s → IfOk r (λ node. tree node.expr.value ≡ tree_at at (v.Tuple es)) → IfOk r (λ node. tree node.expr.value ≡ Tuple p (trees s.items))
tuple_kept r at p es s q e h = subst (λ (t : Tree). IfOk r (λ node. tree node.expr.value ≡ t)) (tuple_made at p es s q e) h

pub tuple_high : (at : Pos) (es : Rc (Vec (Rc Expr Global) Global) Global) (s : Vec (Rc Expr Global) Global) → es.value ≡ s → height (tree_at at (v.Tuple es)) ≡ height (Tuple at (trees s.items))
tuple_high at es s e = ap height (tuple_made at at es s refl e)

list_made : (at p : Pos) (es : Rc (Vec (Rc Expr Global) Global) Global) (s : Vec (Rc Expr Global) Global) → at ≡ p → es.value ≡ s → tree_at at (v.List es) ≡ Listed p (trees s.items)
list_made at p es s q e = ap (λ a. tree_at a (v.List es)) q ∙ list_is p es ∙ ap (λ (x : Vec (Rc Expr Global) Global). Listed p (trees x.items)) e

pub list_kept : {E : Type 0} (r : Result Node E) (at p : Pos) (es : Rc (Vec (Rc Expr Global) Global) Global) (s : Vec (Rc Expr Global) Global) → at ≡ p → es.value ≡ s → IfOk r (λ node. tree node.expr.value ≡ tree_at at (v.List es)) → IfOk r (λ node. tree node.expr.value ≡ Listed p (trees s.items))
list_kept r at p es s q e h = subst (λ (t : Tree). IfOk r (λ node. tree node.expr.value ≡ t)) (list_made at p es s q e) h

pub list_high : (at : Pos) (es : Rc (Vec (Rc Expr Global) Global) Global) (s : Vec (Rc Expr Global) Global) → es.value ≡ s → height (tree_at at (v.List es)) ≡ height (Listed at (trees s.items))
list_high at es s e = ap height (list_made at at es s refl e)

dict_made : (at p : Pos) (ks es : Rc (Vec (Rc Expr Global) Global) Global) (k s : Vec (Rc Expr Global) Global) → at ≡ p → ks.value ≡ k → es.value ≡ s → tree_at at (v.Dict ks es) ≡ Dict p (trees k.items) (trees s.items)
dict_made at p ks es k s q d e = ap (λ a. tree_at a (v.Dict ks es)) q ∙ dict_is p ks es ∙ ap (λ (x : Vec (Rc Expr Global) Global). Dict p (trees x.items) (trees es.value.items)) d ∙ ap (λ (x : Vec (Rc Expr Global) Global). Dict p (trees k.items) (trees x.items)) e

pub dict_kept : {E : Type 0} (r : Result Node E) (at p : Pos) (ks es : Rc (Vec (Rc Expr Global) Global) Global) (k s : Vec (Rc Expr Global) Global) → at ≡ p → ks.value ≡ k → es.value ≡ s → IfOk r (λ node. tree node.expr.value ≡ tree_at at (v.Dict ks es)) → IfOk r (λ node. tree node.expr.value ≡ Dict p (trees k.items) (trees s.items))
dict_kept r at p ks es k s q d e h = subst (λ (t : Tree). IfOk r (λ node. tree node.expr.value ≡ t)) (dict_made at p ks es k s q d e) h

pub dict_high : (at : Pos) (ks es : Rc (Vec (Rc Expr Global) Global) Global) (k s : Vec (Rc Expr Global) Global) → ks.value ≡ k → es.value ≡ s → height (tree_at at (v.Dict ks es)) ≡ height (Dict at (trees k.items) (trees s.items))
dict_high at ks es k s d e = ap height (dict_made at at ks es k s refl d e)

call_made : (at p : Pos) (f : Rc Expr Global) (es : Rc (Vec (Rc Expr Global) Global) Global) (names : Rc (Vec (Option ArgName) Global) Global) (s : Vec (Rc Expr Global) Global) (n : Vec (Option ArgName) Global) → at ≡ p → es.value ≡ s → names.value ≡ n → tree_at at (v.Call f es names) ≡ Call p (tree f.value) (trees s.items) n.items
call_made at p f es names s n q e d = ap (λ a. tree_at a (v.Call f es names)) q ∙ call_is p f es names ∙ ap (λ (x : Vec (Rc Expr Global) Global). Call p (tree f.value) (trees x.items) names.value.items) e ∙ ap (λ (x : Vec (Option ArgName) Global). Call p (tree f.value) (trees s.items) x.items) d

pub call_kept : {E : Type 0} (r : Result Node E) (at p : Pos) (f : Rc Expr Global) (es : Rc (Vec (Rc Expr Global) Global) Global) (names : Rc (Vec (Option ArgName) Global) Global) (s : Vec (Rc Expr Global) Global) (n : Vec (Option ArgName) Global) → at ≡ p → es.value ≡ s → names.value ≡ n → IfOk r (λ node. tree node.expr.value ≡ tree_at at (v.Call f es names)) → IfOk r (λ node. tree node.expr.value ≡ Call p (tree f.value) (trees s.items) n.items)
call_kept r at p f es names s n q e d h = subst (λ (t : Tree). IfOk r (λ node. tree node.expr.value ≡ t)) (call_made at p f es names s n q e d) h

pub call_high : (at : Pos) (f : Rc Expr Global) (es : Rc (Vec (Rc Expr Global) Global) Global) (names : Rc (Vec (Option ArgName) Global) Global) (s : Vec (Rc Expr Global) Global) (n : Vec (Option ArgName) Global) → es.value ≡ s → names.value ≡ n → height (tree_at at (v.Call f es names)) ≡ height (Call at (tree f.value) (trees s.items) n.items)
call_high at f es names s n e d = ap height (call_made at at f es names s n refl e d)

compare_made : (at p : Pos) (f : Rc Expr Global) (ops : Rc (Vec CmpOp Global) Global) (es : Rc (Vec (Rc Expr Global) Global) Global) (o : Vec CmpOp Global) (s : Vec (Rc Expr Global) Global) → at ≡ p → ops.value ≡ o → es.value ≡ s → tree_at at (v.Compare f ops es) ≡ Compare p (tree f.value) o.items (trees s.items)
compare_made at p f ops es o s q d e = ap (λ a. tree_at a (v.Compare f ops es)) q ∙ compare_is p f ops es ∙ ap (λ (x : Vec CmpOp Global). Compare p (tree f.value) x.items (trees es.value.items)) d ∙ ap (λ (x : Vec (Rc Expr Global) Global). Compare p (tree f.value) o.items (trees x.items)) e

pub compare_kept : {E : Type 0} (r : Result Node E) (at p : Pos) (f : Rc Expr Global) (ops : Rc (Vec CmpOp Global) Global) (es : Rc (Vec (Rc Expr Global) Global) Global) (o : Vec CmpOp Global) (s : Vec (Rc Expr Global) Global) → at ≡ p → ops.value ≡ o → es.value ≡ s → IfOk r (λ node. tree node.expr.value ≡ tree_at at (v.Compare f ops es)) → IfOk r (λ node. tree node.expr.value ≡ Compare p (tree f.value) o.items (trees s.items))
compare_kept r at p f ops es o s q d e h = subst (λ (t : Tree). IfOk r (λ node. tree node.expr.value ≡ t)) (compare_made at p f ops es o s q d e) h

pub compare_high : (at : Pos) (f : Rc Expr Global) (ops : Rc (Vec CmpOp Global) Global) (es : Rc (Vec (Rc Expr Global) Global) Global) (o : Vec CmpOp Global) (s : Vec (Rc Expr Global) Global) → ops.value ≡ o → es.value ≡ s → height (tree_at at (v.Compare f ops es)) ≡ height (Compare at (tree f.value) o.items (trees s.items))
compare_high at f ops es o s d e = ap height (compare_made at at f ops es o s refl d e)

and_made : (at p : Pos) (f : Rc Expr Global) (es : Rc (Vec (Rc Expr Global) Global) Global) (s : Vec (Rc Expr Global) Global) → at ≡ p → es.value ≡ s → tree_at at (v.And f es) ≡ And p (tree f.value) (trees s.items)
and_made at p f es s q e = ap (λ a. tree_at a (v.And f es)) q ∙ and_is p f es ∙ ap (λ (x : Vec (Rc Expr Global) Global). And p (tree f.value) (trees x.items)) e

pub and_kept : {E : Type 0} (r : Result Node E) (at p : Pos) (f : Rc Expr Global) (es : Rc (Vec (Rc Expr Global) Global) Global) (s : Vec (Rc Expr Global) Global) → at ≡ p → es.value ≡ s → IfOk r (λ node. tree node.expr.value ≡ tree_at at (v.And f es)) → IfOk r (λ node. tree node.expr.value ≡ And p (tree f.value) (trees s.items))
and_kept r at p f es s q e h = subst (λ (t : Tree). IfOk r (λ node. tree node.expr.value ≡ t)) (and_made at p f es s q e) h

pub and_high : (at : Pos) (f : Rc Expr Global) (es : Rc (Vec (Rc Expr Global) Global) Global) (s : Vec (Rc Expr Global) Global) → es.value ≡ s → height (tree_at at (v.And f es)) ≡ height (And at (tree f.value) (trees s.items))
and_high at f es s e = ap height (and_made at at f es s refl e)

or_made : (at p : Pos) (f : Rc Expr Global) (es : Rc (Vec (Rc Expr Global) Global) Global) (s : Vec (Rc Expr Global) Global) → at ≡ p → es.value ≡ s → tree_at at (v.Or f es) ≡ Or p (tree f.value) (trees s.items)
or_made at p f es s q e = ap (λ a. tree_at a (v.Or f es)) q ∙ or_is p f es ∙ ap (λ (x : Vec (Rc Expr Global) Global). Or p (tree f.value) (trees x.items)) e

pub or_kept : {E : Type 0} (r : Result Node E) (at p : Pos) (f : Rc Expr Global) (es : Rc (Vec (Rc Expr Global) Global) Global) (s : Vec (Rc Expr Global) Global) → at ≡ p → es.value ≡ s → IfOk r (λ node. tree node.expr.value ≡ tree_at at (v.Or f es)) → IfOk r (λ node. tree node.expr.value ≡ Or p (tree f.value) (trees s.items))
or_kept r at p f es s q e h = subst (λ (t : Tree). IfOk r (λ node. tree node.expr.value ≡ t)) (or_made at p f es s q e) h

pub or_high : (at : Pos) (f : Rc Expr Global) (es : Rc (Vec (Rc Expr Global) Global) Global) (s : Vec (Rc Expr Global) Global) → es.value ≡ s → height (tree_at at (v.Or f es)) ≡ height (Or at (tree f.value) (trees s.items))
or_high at f es s e = ap height (or_made at at f es s refl e)
