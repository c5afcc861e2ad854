-- The law of the deal.
use Rattle.std.proofs.Common.{◌≡◌, ◌≢◌, ◌⊎◌, ℕ, zero, suc, ◌+◌, ◌<◌, ◌≤◌, List, [], ◌∷◌, ◌++◌, length, inl, inr, refl, sym, ap, ◌∙◌, subst, eqb, eq-eqb, arith, le_refl}
use Rattle.std.proofs.lemmas.Bool.{cases_eq, ne_eqb}
use Rattle.share_files.specs.Deal.{drawn, lists_from, deal, RisesFrom, Every, times, times_in, EachOnce}
use Rattle.share_files.specs.Rule.{workers_from}

pub drawn_same : (k next who : ℕ) (ds : List ℕ) → who ≡ k → drawn k next (who ∷ ds) ≡ next ∷ drawn k (next + 1) ds
drawn_same k next who ds e = rw (eq-eqb who k e) refl

pub drawn_else : (k next who : ℕ) (ds : List ℕ) → who ≢ k → drawn k next (who ∷ ds) ≡ drawn k (next + 1) ds
drawn_else k next who ds ne = rw (ne_eqb who k ne) refl

-- a draw by k is one number more for k
pub drawn-here : (k next : ℕ) (ds : List ℕ) → drawn k next (ds ++ k ∷ []) ≡ drawn k next ds ++ (next + length ds) ∷ []
drawn-here k next [] = drawn_same k next k [] refl ∙ ap (λ n. n ∷ []) (omega arith)
drawn-here k next (who ∷ ds) = elim (cases_eq who k) [
  | inl e ↦ drawn_same k next who (ds ++ k ∷ []) e
      ∙ (ap (λ (l : List ℕ). next ∷ l) (drawn-here k (next + 1) ds ∙ ap (λ n. drawn k (next + 1) ds ++ n ∷ []) (omega arith))
      ∙ sym (ap (λ (l : List ℕ). l ++ (next + suc (length ds)) ∷ []) (drawn_same k next who ds e)))
  | inr ne ↦ drawn_else k next who (ds ++ k ∷ []) ne
      ∙ ((drawn-here k (next + 1) ds ∙ ap (λ n. drawn k (next + 1) ds ++ n ∷ []) (omega arith))
      ∙ sym (ap (λ (l : List ℕ). l ++ (next + suc (length ds)) ∷ []) (drawn_else k next who ds ne)))
]

-- and nothing for another
pub drawn-other : (j k next : ℕ) (ds : List ℕ) → k ≢ j → drawn j next (ds ++ k ∷ []) ≡ drawn j next ds
drawn-other j k next [] ne = drawn_else j next k [] ne
drawn-other j k next (who ∷ ds) ne = elim (cases_eq who j) [
  | inl e ↦ drawn_same j next who (ds ++ k ∷ []) e ∙ (ap (λ (l : List ℕ). next ∷ l) (drawn-other j k (next + 1) ds ne) ∙ sym (drawn_same j next who ds e))
  | inr nq ↦ drawn_else j next who (ds ++ k ∷ []) nq ∙ (drawn-other j k (next + 1) ds ne ∙ sym (drawn_else j next who ds nq))
]

pub times_same : (x y : ℕ) (ys : List ℕ) → y ≡ x → times x (y ∷ ys) ≡ 1 + times x ys
times_same x y ys e = rw (eq-eqb y x e) refl

pub times_else : (x y : ℕ) (ys : List ℕ) → y ≢ x → times x (y ∷ ys) ≡ times x ys
times_else x y ys ne = rw (ne_eqb y x ne) (omega arith)

pub times-append : (x : ℕ) (xs ys : List ℕ) → times x (xs ++ ys) ≡ times x xs + times x ys
times-append x [] ys = omega arith
times-append x (z ∷ xs) ys = elim (cases_eq z x) [
  | inl e ↦ times_same x z (xs ++ ys) e ∙ omega (arith, times-append x xs ys, times_same x z xs e)
  | inr ne ↦ times_else x z (xs ++ ys) ne ∙ omega (arith, times-append x xs ys, times_else x z xs ne)
]

pub lists_from-other : (first c next k : ℕ) (ds : List ℕ) → times k (workers_from first c) ≡ 0 → lists_from first c next (ds ++ k ∷ []) ≡ lists_from first c next ds
lists_from-other first zero next k ds none = refl
lists_from-other first (suc c) next k ds none = elim (cases_eq first k) [
  | inl e ↦ absurd (omega (arith, times_same k first (workers_from (first + 1) c) e, none))
  | inr ne ↦ ap (λ (l : List ℕ). l ∷ lists_from (first + 1) c next (ds ++ k ∷ [])) (drawn-other first k next ds (λ e. ne (sym e)))
      ∙ ap (λ (ls : List (List ℕ)). drawn first next ds ∷ ls) (lists_from-other (first + 1) c next k ds (sym (times_else k first (workers_from (first + 1) c) ne) ∙ none))
]

pub lists_from-append : (k a b next : ℕ) (ds : List ℕ) → lists_from k (a + b) next ds ≡ lists_from k a next ds ++ lists_from (k + a) b next ds
lists_from-append k zero b next ds = rw (eq_zero b) (ap (λ n. lists_from n b next ds) (omega arith)) where
  eq_zero : (n : ℕ) → zero + n ≡ n
  eq_zero n = omega arith
lists_from-append k (suc a) b next ds = rw (eq_suc a b) (ap (λ (ls : List (List ℕ)). drawn k next ds ∷ ls) (lists_from-append (k + 1) a b next ds ∙ ap (λ n. lists_from (k + 1) a next ds ++ lists_from n b next ds) (omega arith))) where
  eq_suc : (m n : ℕ) → suc m + n ≡ suc (m + n)
  eq_suc m n = omega arith

pub length-lists_from : (k c next : ℕ) (ds : List ℕ) → length (lists_from k c next ds) ≡ c
length-lists_from k zero next ds = refl
length-lists_from k (suc c) next ds = ap suc (length-lists_from (k + 1) c next ds)

pub lists_from-none : (k c next : ℕ) → lists_from k c next [] ≡ Rattle.std.proofs.Common.replicate c []
lists_from-none k zero next = refl
lists_from-none k (suc c) next = ap (λ (ls : List (List ℕ)). [] ∷ ls) (lists_from-none (k + 1) c next)

-- each list rises
pub drawn_rises : (low k next : ℕ) (ds : List ℕ) → low ≤ next → RisesFrom low (drawn k next ds)
drawn_rises low k next [] le = tt
drawn_rises low k next (who ∷ ds) le = elim (cases_eq who k) [
  | inl e ↦ subst (RisesFrom low) (sym (drawn_same k next who ds e)) (le, drawn_rises (next + 1) k (next + 1) ds (le_refl _))
  | inr ne ↦ subst (RisesFrom low) (sym (drawn_else k next who ds ne)) (drawn_rises low k (next + 1) ds (omega (arith, le)))
]

pub lists_rise : (low k c next : ℕ) (ds : List ℕ) → low ≤ next → Every (RisesFrom low) (lists_from k c next ds)
lists_rise low k zero next ds le = tt
lists_rise low k (suc c) next ds le = (drawn_rises low k next ds le, lists_rise low (k + 1) c next ds le)

-- what one draw adds
pub miss : (x k c next who : ℕ) (ds : List ℕ) → next ≢ x → times_in x (lists_from k c next (who ∷ ds)) ≡ times_in x (lists_from k c (next + 1) ds)
miss x k zero next who ds ne = refl
miss x k (suc c) next who ds ne = elim (cases_eq who k) [
  | inl e ↦ omega (arith, ap (times x) (drawn_same k next who ds e), times_else x next (drawn k (next + 1) ds) ne, miss x (k + 1) c next who ds ne)
  | inr nq ↦ omega (arith, ap (times x) (drawn_else k next who ds nq), miss x (k + 1) c next who ds ne)
]

out : (x k c next who : ℕ) (ds : List ℕ) → who < k → times_in x (lists_from k c next (who ∷ ds)) ≡ times_in x (lists_from k c (next + 1) ds)
out x k zero next who ds lt = refl
out x k (suc c) next who ds lt = omega (arith, ap (times x) (drawn_else k next who ds (λ e. omega (arith, e, lt))), out x (k + 1) c next who ds (omega (arith, lt)))

hit : (k c next who : ℕ) (ds : List ℕ) → k ≤ who → who < k + c → times_in next (lists_from k c next (who ∷ ds)) ≡ 1 + times_in next (lists_from k c (next + 1) ds)
hit k zero next who ds le lt = absurd (omega (arith, le, lt))
hit k (suc c) next who ds le lt = elim (cases_eq who k) [
  | inl e ↦ omega (arith, ap (times next) (drawn_same k next who ds e), times_same next next (drawn k (next + 1) ds) refl, out next (k + 1) c next who ds (omega (arith, e)))
  | inr ne ↦ omega (arith, ap (times next) (drawn_else k next who ds ne), hit (k + 1) c next who ds (omega (arith, le, ne)) (omega (arith, lt)))
]

pub none_below : (x k c next : ℕ) (ds : List ℕ) → x < next → times_in x (lists_from k c next ds) ≡ 0
none_below x k zero next [] lt = refl
none_below x k (suc c) next [] lt = omega (arith, none_below x (k + 1) c next [] lt)
none_below x k c next (who ∷ ds) lt = miss x k c next who ds (λ e. omega (arith, e, lt)) ∙ none_below x k c (next + 1) ds (omega (arith, lt))

pub none_above : (x k c next : ℕ) (ds : List ℕ) → next + length ds ≤ x → times_in x (lists_from k c next ds) ≡ 0
none_above x k zero next [] le = refl
none_above x k (suc c) next [] le = omega (arith, none_above x (k + 1) c next [] le)
none_above x k c next (who ∷ ds) le = miss x k c next who ds (λ e. omega (arith, e, le)) ∙ none_above x k c (next + 1) ds (omega (arith, le))

pub each_once : (x n next : ℕ) (ds : List ℕ) → Every (λ k. k < n) ds → next ≤ x → x < next + length ds → times_in x (lists_from 0 n next ds) ≡ 1
each_once x n next [] who le lt = absurd (omega (arith, le, lt))
each_once x n next (k ∷ ds) who le lt = elim (cases_eq next x) [
  | inl e ↦ subst (λ y. times_in y (lists_from 0 n next (k ∷ ds)) ≡ 1) e (omega (arith, hit 0 n next k ds (omega arith) (omega (arith, who.0)), none_below next 0 n (next + 1) ds (omega arith)))
  | inr ne ↦ miss x 0 n next k ds ne ∙ each_once x n (next + 1) ds who.1 (omega (arith, le, ne)) (omega (arith, lt))
]

-- for every list of draws
pub deal_law : (n : ℕ) (ds : List ℕ) → Every (λ k. k < n) ds → EachOnce n (n + length ds) (deal n ds)
deal_law n ds who = record {
  each = λ x le lt. each_once x n n ds who le lt;
  no_other = λ x or. elim or [ inl lt ↦ none_below x 0 n n ds lt | inr le ↦ none_above x 0 n n ds le ];
}
