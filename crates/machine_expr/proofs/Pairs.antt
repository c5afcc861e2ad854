-- The keys of a dict's display, each with its value behind it.
use Rattle.std.proofs.Common.{◌≡◌, ◌≤◌, ◌<◌, ◌∙◌, ◌+◌, ◌*◌, ◌/◌, ◌%◌, ℕ, zero, suc, List, [], ◌∷◌, length, map, drop, get_or, refl, sym, ap, arith, Some, None, subst}
use Rattle.std.specs.declared.alloc.Global.{Global}
use Rattle.std.specs.declared.rc.Rc.{Rc}
use Rattle.std.specs.declared.vec.Vec.{Vec}
use Rattle.std.specs.List.{sum_by}
use Rattle.std.proofs.lemmas.List.{drop-map}
use Rattle.std.proofs.lemmas.List.Sums.{sum_by-cons}
use Rattle.py_core.specs.declared.expr.CoreExpr.{CoreExpr}
use Rattle.machine_state.specs.py_world.Displays.{in_pairs}
use Rattle.machine_state.specs.core_meaning.Expressions.{CorePart, eval}
use Rattle.machine_state.specs.Work.{weight, weight_from}
use Rattle.machine_expr.specs.Pairs.{IsNextPair, pairs_from, pairs_weight}

pairs_map : {A B : Type 0} (f : A → B) (xs ys : List A) → in_pairs (map f xs) (map f ys) ≡ map f (in_pairs xs ys)
pairs_map f [] ys = refl
pairs_map f (x ∷ xs) [] = refl
pairs_map f (x ∷ xs) (y ∷ ys) = ap (λ zs. f x ∷ (f y ∷ zs)) (pairs_map f xs ys)

-- two places further
further : {A : Type 0} (x y : A) (zs : List A) (i : ℕ) → drop (suc i * 2) (x ∷ (y ∷ zs)) ≡ drop (i * 2) zs
further x y zs i = let e : suc i * 2 ≡ suc (suc (i * 2)) = omega arith in ap (λ n. drop n (x ∷ (y ∷ zs))) e

further_one : {A : Type 0} (x y : A) (zs : List A) (i : ℕ) → drop (suc i * 2 + 1) (x ∷ (y ∷ zs)) ≡ drop (i * 2 + 1) zs
further_one x y zs i = let e : suc i * 2 + 1 ≡ suc (suc (i * 2 + 1)) = omega arith in ap (λ n. drop n (x ∷ (y ∷ zs))) e

further_two : {A : Type 0} (x y : A) (zs : List A) (i : ℕ) → drop (suc i * 2 + 1 + 1) (x ∷ (y ∷ zs)) ≡ drop (i * 2 + 1 + 1) zs
further_two x y zs i = let e : suc i * 2 + 1 + 1 ≡ suc (suc (i * 2 + 1 + 1)) = omega arith in ap (λ n. drop n (x ∷ (y ∷ zs))) e

key_at : {A : Type 0} (xs ys : List A) (i : ℕ) (x : A) → i < length xs → i < length ys → x ≡ get_or xs i x
    → drop (i * 2) (in_pairs xs ys) ≡ x ∷ drop (i * 2 + 1) (in_pairs xs ys)
key_at [] ys i x p q h = absurd (omega arith)
key_at (a ∷ xs) [] i x p q h = absurd (omega arith)
key_at (a ∷ xs) (b ∷ ys) zero x p q h = ap (λ c. c ∷ (b ∷ in_pairs xs ys)) (sym h)
key_at (a ∷ xs) (b ∷ ys) (suc i) x p q h =
    further a b (in_pairs xs ys) i ∙ key_at xs ys i x (omega arith) (omega arith) h ∙ ap (λ zs. x ∷ zs) (sym (further_one a b (in_pairs xs ys) i))

value_at : {A : Type 0} (xs ys : List A) (i : ℕ) (y : A) → i < length xs → i < length ys → y ≡ get_or ys i y
    → drop (i * 2 + 1) (in_pairs xs ys) ≡ y ∷ drop (i * 2 + 1 + 1) (in_pairs xs ys)
value_at [] ys i y p q h = absurd (omega arith)
value_at (a ∷ xs) [] i y p q h = absurd (omega arith)
value_at (a ∷ xs) (b ∷ ys) zero y p q h = ap (λ c. c ∷ in_pairs xs ys) (sym h)
value_at (a ∷ xs) (b ∷ ys) (suc i) y p q h =
    further_one a b (in_pairs xs ys) i ∙ value_at xs ys i y (omega arith) (omega arith) h ∙ ap (λ zs. y ∷ zs) (sym (further_two a b (in_pairs xs ys) i))

drop_none : {A : Type 0} (n : ℕ) → ◌≡◌ {A = List A} (drop n []) []
drop_none zero = refl
drop_none (suc n) = refl

-- behind the last one
keys_end : {A : Type 0} (xs ys : List A) (n : ℕ) → length xs * 2 ≤ n → drop n (in_pairs xs ys) ≡ []
keys_end [] ys n h = drop_none n
keys_end (a ∷ xs) [] n h = drop_none n
keys_end (a ∷ xs) (b ∷ ys) zero h = absurd (omega arith)
keys_end (a ∷ xs) (b ∷ ys) (suc zero) h = absurd (omega arith)
keys_end (a ∷ xs) (b ∷ ys) (suc (suc n)) h = keys_end xs ys n (omega arith)

values_end : {A : Type 0} (xs ys : List A) (n : ℕ) → length ys * 2 ≤ n → drop n (in_pairs xs ys) ≡ []
values_end [] ys n h = drop_none n
values_end (a ∷ xs) [] n h = drop_none n
values_end (a ∷ xs) (b ∷ ys) zero h = absurd (omega arith)
values_end (a ∷ xs) (b ∷ ys) (suc zero) h = absurd (omega arith)
values_end (a ∷ xs) (b ∷ ys) (suc (suc n)) h = values_end xs ys n (omega arith)

abbrev evaluated : Rc CoreExpr Global → CorePart
evaluated e = eval e.value

abbrev weighed : Rc CoreExpr Global → ℕ
weighed e = weight e.value + 1

module _ (ks es : Rc (Vec (Rc CoreExpr Global) Global) Global) where
  parts_there : (at : ℕ) → pairs_from at ks es ≡ map evaluated (drop at (in_pairs ks.value.items es.value.items))
  parts_there at = ap (drop at) (pairs_map evaluated ks.value.items es.value.items) ∙ drop-map evaluated at (in_pairs ks.value.items es.value.items)

  at_place : (at : ℕ) (e r : Rc CoreExpr Global) → drop at (in_pairs ks.value.items es.value.items) ≡ e ∷ drop (at + 1) (in_pairs ks.value.items es.value.items) → r.value ≡ e.value
      → IsNextPair (Some r) at ks es
  at_place at e r d same = (
    parts_there at ∙ ap (map evaluated) d
        ∙ ap (λ (y : CoreExpr). eval y ∷ map evaluated (drop (at + 1) (in_pairs ks.value.items es.value.items))) (sym same)
        ∙ ap (λ (ps : List CorePart). eval r.value ∷ ps) (sym (parts_there (at + 1))),
    ap (sum_by weighed) d
        ∙ sum_by-cons {X = Rc CoreExpr Global} weighed e (drop (at + 1) (in_pairs ks.value.items es.value.items))
        ∙ ap (λ (y : CoreExpr). weight y + 1 + sum_by weighed (drop (at + 1) (in_pairs ks.value.items es.value.items))) (sym same),
  )

  pub no_key : (at : ℕ) → length ks.value.items ≤ at / 2 → IsNextPair None at ks es
  no_key at h = parts_there at ∙ ap (map evaluated) (keys_end ks.value.items es.value.items at (omega arith))

  pub no_value : (at : ℕ) → length es.value.items ≤ at / 2 → IsNextPair None at ks es
  no_value at h = parts_there at ∙ ap (map evaluated) (values_end ks.value.items es.value.items at (omega arith))

  pub next_key : (at : ℕ) (e r : Rc CoreExpr Global) → at % 2 ≡ 0 → at / 2 < length ks.value.items → at / 2 < length es.value.items
      → e ≡ get_or ks.value.items (at / 2) e → r.value ≡ e.value → IsNextPair (Some r) at ks es
  next_key at e r even p q h same =
      let n : at / 2 * 2 ≡ at = omega arith in
      at_place at e r
      (subst (λ (n : ℕ). drop n (in_pairs ks.value.items es.value.items) ≡ e ∷ drop (n + 1) (in_pairs ks.value.items es.value.items)) n
      (key_at ks.value.items es.value.items (at / 2) e p q h))
      same

  pub next_value : (at : ℕ) (e r : Rc CoreExpr Global) → 0 < at % 2 → at / 2 < length ks.value.items → at / 2 < length es.value.items
      → e ≡ get_or es.value.items (at / 2) e → r.value ≡ e.value → IsNextPair (Some r) at ks es
  next_value at e r odd p q h same =
      let n : at / 2 * 2 + 1 ≡ at = omega arith in
      at_place at e r
      (subst (λ (n : ℕ). drop n (in_pairs ks.value.items es.value.items) ≡ e ∷ drop (n + 1) (in_pairs ks.value.items es.value.items)) n
      (value_at ks.value.items es.value.items (at / 2) e p q h))
      same

light : {A : Type 0} (f : A → ℕ) (xs ys : List A) → sum_by f (in_pairs xs ys) ≤ sum_by f xs + sum_by f ys
light f [] ys = omega arith
light f (x ∷ xs) [] = omega arith
light {A = A} f (x ∷ xs) (y ∷ ys) =
    let h : sum_by f (in_pairs xs ys) ≤ sum_by f xs + sum_by f ys = light f xs ys in
    omega (arith, h, sum_by-cons {X = A} f x xs, sum_by-cons {X = A} f y ys, sum_by-cons {X = A} f x (y ∷ in_pairs xs ys), sum_by-cons {X = A} f y (in_pairs xs ys))

-- no more than both rows
pub pairs_light : (ks es : Rc (Vec (Rc CoreExpr Global) Global) Global) → pairs_weight 0 ks es ≤ weight_from 0 ks + weight_from 0 es
pairs_light ks es = light weighed ks.value.items es.value.items
