-- The part of a list at a place.
use Rattle.std.proofs.Common.{◌≡◌, ℕ, List, ◌∷◌, map, refl, sym, ap, ◌∙◌, ◌+◌, suc, add-one, drop-cons, drop, get_or, length, ◌<◌, ◌≤◌, Some, None}
use Rattle.std.proofs.Math.ListN.{drop_of_length-le}
use Rattle.std.specs.declared.alloc.Global.{Global}
use Rattle.std.specs.declared.rc.Rc.{Rc}
use Rattle.std.specs.declared.vec.Vec.{Vec}
use Rattle.std.specs.List.{sum_by}
use Rattle.std.proofs.lemmas.List.Sums.{sum_by-cons}
use Rattle.py_core.specs.declared.expr.CoreExpr.{CoreExpr}
use Rattle.py_core.specs.declared.expr.CoreExprKind.{Row_of-CoreExprKind-Call-1-1 as Row, end_of-CoreExprKind-Call-1-1 as end, more_of-CoreExprKind-Call-1-1 as more}
use Rattle.py_core.specs.declared.expr.CoreExprKind.TheBlock.{items-the_row-CoreExprKind-Call-1-1 as items, items_hidden-the_row-CoreExprKind-Call-1-1-0 as items_hidden, hidden-the_row-CoreExprKind-Call-1-1-0 as hidden}
use Rattle.py_tree.specs.declared.op.CmpOp.{CmpOp}
use Rattle.machine_state.specs.core_meaning.Expressions.{CorePart, eval, eval_at, parts}
use Rattle.machine_state.specs.Work.{weight}
use Rattle.machine_immediate.specs.Parts.{IsNext, IsNextOp}

row_at : {A : Type 0} (xs : List A) (i : ℕ) (x : A) → i < length xs → x ≡ get_or xs i x → drop i xs ≡ x ∷ drop (i + 1) xs
row_at xs i x w h = rw add-one (drop-cons xs i x w ∙ ap (λ y. y ∷ drop (suc i) xs) (sym h))

pub next_some : (es : Rc (Vec (Rc CoreExpr Global) Global) Global) (at : ℕ) (e r : Rc CoreExpr Global)
    → at < length es.value.items → e ≡ get_or es.value.items at e → r.value ≡ e.value → IsNext (Some r) at es
next_some es at e r w h same =
    let d : drop at es.value.items ≡ e ∷ drop (at + 1) es.value.items = row_at es.value.items at e w h in (
      ap (map (λ (x : Rc CoreExpr Global). eval x.value)) d ∙ ap (λ (y : CoreExpr). eval y ∷ map (λ (x : Rc CoreExpr Global). eval x.value) (drop (at + 1) es.value.items)) (sym same),
      (
        ap (sum_by (λ (x : Rc CoreExpr Global). weight x.value + 1)) d
            ∙ sum_by-cons {X = Rc CoreExpr Global} (λ x. weight x.value + 1) e (drop (at + 1) es.value.items)
            ∙ ap (λ (y : CoreExpr). weight y + 1 + sum_by (λ (x : Rc CoreExpr Global). weight x.value + 1) (drop (at + 1) es.value.items)) (sym same),
        w,
      ),
    )

pub next_none : (es : Rc (Vec (Rc CoreExpr Global) Global) Global) (at : ℕ) → length es.value.items ≤ at → IsNext None at es
next_none es at h = ap (map (λ (x : Rc CoreExpr Global). eval x.value)) (drop_of_length-le es.value.items h)

pub next_op_some : (ops : List CmpOp) (at : ℕ) (op : CmpOp) → at < length ops → op ≡ get_or ops at op → IsNextOp (Some op) at ops
next_op_some ops at op w h = row_at ops at op w h

pub next_op_none : (ops : List CmpOp) (at : ℕ) → length ops ≤ at → IsNextOp None at ops
next_op_none ops at h = drop_of_length-le ops h

-- the parts of an expression as a list
parts_row : {n : _} (row : Row n) → parts row ≡ map (λ e. eval e.value) (items n row)
parts_row end = refl
parts_row (more p a e row) = ap (λ (xs : List CorePart). eval_at a e ∷ xs) (parts_row row)

pub parts_items : (es : Vec (Rc CoreExpr Global) Global) → parts (hidden es) ≡ map (λ e. eval e.value) es.items
parts_items es = parts_row (hidden es) ∙ ap (map (λ (e : Rc CoreExpr Global). eval e.value)) (items_hidden es)
