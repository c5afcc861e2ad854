-- Implementations that are put in their places are in hook order.
use Rattle.std.proofs.Common.{◌≡◌, ℕ, zero, suc, ◌<◌, ◌≤◌, ◌⊎◌, inl, inr, Bool, true, false, cond, ◌&&◌, ◌||◌, nat_lt, nat_le, nat_eq, List, [], ◌∷◌, length, refl, subst, sym, arith}
use Rattle.std.specs.List.{All, AllPairs, insert}
use Rattle.std.specs.Bool.{MatchBool}
use Rattle.std.proofs.lemmas.Bool.Decides.{nat_tests}
use Rattle.std.proofs.lemmas.List.Kept.{AllPairs-cons}
use Rattle.hook_order.specs.HookOrder.{InHookOrder, RunsBefore, class_of, layer_of}
use Rattle.hook_order.specs.declared.implementation.Impl.{Impl}
use Rattle.conftest_hooks.specs.Registered.{goes_before, place_among, put_in_order}

-- LISTS, element by element

abbrev Each : {X : Type 0} → (X → Type 0) → List X → Type 0
Each P [] = Unit {0}
Each P (x ∷ xs) = P x × Each P xs

abbrev Pairs : {X : Type 0} → (X → X → Type 0) → List X → Type 0
Pairs R [] = Unit {0}
Pairs R (x ∷ xs) = Each (R x) xs × Pairs R xs

module _ {X : Type 0} where
  all_of : (P : X → Type 0) (xs : List X) → Each P xs → All P xs
  all_of P [] e k d lt = absurd (omega (arith, lt))
  all_of P (x ∷ xs) e zero d lt = e.0
  all_of P (x ∷ xs) e (suc k) d lt = all_of P xs e.1 k d (omega (arith, lt))

  each_of : (P : X → Type 0) (xs : List X) → All P xs → Each P xs
  each_of P [] a = tt
  each_of P (x ∷ xs) a = (a 0 x (omega arith), each_of P xs (λ k d lt. a (suc k) d (omega (arith, lt))))

  all_pairs_of : (R : X → X → Type 0) (xs : List X) → Pairs R xs → AllPairs R xs
  all_pairs_of R [] p = λ i j d lt below. absurd (omega (arith, below))
  all_pairs_of R (x ∷ xs) p = AllPairs-cons R x xs (all_of (R x) xs p.0) (all_pairs_of R xs p.1)

  pairs_of : (R : X → X → Type 0) (xs : List X) → AllPairs R xs → Pairs R xs
  pairs_of R [] a = tt
  pairs_of R (x ∷ xs) a =
      (each_of (R x) xs (λ k d lt. a 0 (suc k) d (omega arith) (omega (arith, lt))), pairs_of R xs (λ i j d lt below. a (suc i) (suc j) d (omega (arith, lt)) (omega (arith, below))))

  each_more : (P Q : X → Type 0) → ((x : X) → P x → Q x) → (xs : List X) → Each P xs → Each Q xs
  each_more P Q h [] e = tt
  each_more P Q h (x ∷ xs) e = (h x e.0, each_more P Q h xs e.1)

-- TWO IMPLEMENTATIONS

-- in numbers: the layer, the class and the number of registration of each
abbrev Turn : ℕ → ℕ → ℕ → Type 0
Turn c m n = MatchBool (nat_eq c 2) (m ≤ n) (n ≤ m)

abbrev Before : ℕ → ℕ → ℕ → ℕ → ℕ → ℕ → Type 0
Before l c r m d s = (l < m) ⊎ ((l ≡ m) × ((c < d) ⊎ ((c ≡ d) × Turn c r s)))

turn_told : (c r s : ℕ) → cond (nat_eq c 2) (nat_le r s) (nat_le s r) ≡ true → Turn c r s
turn_told c r s e = elim (nat_eq c 2) as (λ b. cond b (nat_le r s) (nat_le s r) ≡ true → MatchBool b (r ≤ s) (s ≤ r)) [
  | true ↦ λ h. grind (arith, nat_tests)
  | false ↦ λ h. grind (arith, nat_tests)
] e

turn_back : (c r s : ℕ) → cond (nat_eq c 2) (nat_le r s) (nat_le s r) ≡ false → Turn c s r
turn_back c r s e = elim (nat_eq c 2) as (λ b. cond b (nat_le r s) (nat_le s r) ≡ false → MatchBool b (s ≤ r) (r ≤ s)) [
  | true ↦ λ h. grind (arith, nat_tests)
  | false ↦ λ h. grind (arith, nat_tests)
] e

turn_through : (c r s t : ℕ) → Turn c r s → Turn c s t → Turn c r t
turn_through c r s t = elim (nat_eq c 2) as (λ b. MatchBool b (r ≤ s) (s ≤ r) → MatchBool b (s ≤ t) (t ≤ s) → MatchBool b (r ≤ t) (t ≤ r)) [
  | true ↦ λ h k. omega (arith, h, k)
  | false ↦ λ h k. omega (arith, h, k)
]

through : (l c r m d s n e t : ℕ) → Before l c r m d s → Before m d s n e t → Before l c r n e t
through l c r m d s n e t (inl a) (inl b) = inl (omega (arith, a, b))
through l c r m d s n e t (inl a) (inr b) = inl (subst (λ k. l < k) b.0 a)
through l c r m d s n e t (inr a) (inl b) = inl (subst (λ k. k < n) (sym a.0) b)
through l c r m d s n e t (inr (q, inl a)) (inr (p, inl b)) = inr (omega (arith, q, p), inl (omega (arith, a, b)))
through l c r m d s n e t (inr (q, inl a)) (inr (p, inr b)) = inr (omega (arith, q, p), inl (subst (λ k. c < k) b.0 a))
through l c r m d s n e t (inr (q, inr a)) (inr (p, inl b)) = inr (omega (arith, q, p), inl (subst (λ k. k < e) (sym a.0) b))
through l c r m d s n e t (inr (q, inr a)) (inr (p, inr b)) =
    inr (omega (arith, q, p), inr (omega (arith, a.0, b.0), turn_through c r s t a.1 (subst (λ k. Turn k s t) (sym a.0) b.1)))

runs_through : (x y z : Impl) → RunsBefore x y → RunsBefore y z → RunsBefore x z
runs_through x y z a b = through (layer_of x) (class_of x) x.registered (layer_of y) (class_of y) y.registered (layer_of z) (class_of z) z.registered a b

-- what the test tells
told : (l c r m d s : ℕ) → (nat_lt l m || (nat_eq l m && (nat_lt c d || (nat_eq c d && cond (nat_eq c 2) (nat_le r s) (nat_le s r))))) ≡ true → Before l c r m d s
told l c r m d s h =
    elim (tested l c m d (cond (nat_eq c 2) (nat_le r s) (nat_le s r)) h) [
      | inl a ↦ inl a
      | inr (q, inl a) ↦ inr (q, inl a)
      | inr (q, inr a) ↦ inr (q, inr (a.0, turn_told c r s a.1))
    ]
  where
    tested : (l c m d : ℕ) (b : Bool) → (nat_lt l m || (nat_eq l m && (nat_lt c d || (nat_eq c d && b)))) ≡ true → (l < m) ⊎ ((l ≡ m) × ((c < d) ⊎ ((c ≡ d) × (b ≡ true))))
    tested l c m d true h = grind (arith, nat_tests)
    tested l c m d false h = grind (arith, nat_tests)

told_back : (l c r m d s : ℕ) → (nat_lt l m || (nat_eq l m && (nat_lt c d || (nat_eq c d && cond (nat_eq c 2) (nat_le r s) (nat_le s r))))) ≡ false → Before m d s l c r
told_back l c r m d s h =
    elim (tested l c m d (cond (nat_eq c 2) (nat_le r s) (nat_le s r)) h) [
      | inl a ↦ inl a
      | inr (q, inl a) ↦ inr (q, inl a)
      | inr (q, inr a) ↦ inr (q, inr (a.0, subst (λ k. Turn k s r) (sym a.0) (turn_back c r s a.1)))
    ]
  where
    tested : (l c m d : ℕ) (b : Bool) → (nat_lt l m || (nat_eq l m && (nat_lt c d || (nat_eq c d && b)))) ≡ false → (m < l) ⊎ ((m ≡ l) × ((d < c) ⊎ ((d ≡ c) × (b ≡ false))))
    tested l c m d true h = grind (arith, nat_tests)
    tested l c m d false h = grind (arith, nat_tests)

goes : (x y : Impl) → goes_before x y ≡ true → RunsBefore x y
goes x y h = told (layer_of x) (class_of x) x.registered (layer_of y) (class_of y) y.registered h

goes_behind : (x y : Impl) → goes_before x y ≡ false → RunsBefore y x
goes_behind x y h = told_back (layer_of x) (class_of x) x.registered (layer_of y) (class_of y) y.registered h

-- ONE THAT IS PUT AMONG OTHERS

module _ (w : Impl) where
  each_put : (P : Impl → Type 0) → P w → (n : ℕ) (xs : List Impl) → Each P xs → Each P (insert xs n w)
  each_put P p zero xs e = (p, e)
  each_put P p (suc n) [] e = (p, tt)
  each_put P p (suc n) (x ∷ xs) e = (e.0, each_put P p n xs e.1)

  put_step : (x : Impl) (xs : List Impl) (b : Bool) → goes_before w x ≡ b → Pairs RunsBefore (x ∷ xs) → Pairs RunsBefore (insert xs (place_among w xs) w) → Pairs RunsBefore (insert (x ∷ xs) (cond b 0 (suc (place_among w xs))) w)
  put_step x xs true e p rest = ((goes w x e, each_more (RunsBefore x) (RunsBefore w) (λ y a. runs_through w x y (goes w x e) a) xs p.0), p)
  put_step x xs false e p rest = (each_put (RunsBefore x) (goes_behind w x e) (place_among w xs) xs p.0, rest)

  put : (xs : List Impl) → Pairs RunsBefore xs → Pairs RunsBefore (insert xs (place_among w xs) w)
  put [] p = (tt, tt)
  put (x ∷ xs) p = put_step x xs (goes_before w x) refl p (put xs p.1)

pub put_ordered : (w : Impl) (xs : List Impl) → InHookOrder xs → InHookOrder (put_in_order w xs)
put_ordered w xs h = all_pairs_of RunsBefore (insert xs (place_among w xs) w) (put w xs (pairs_of RunsBefore xs h))

-- it has a place among them
pub place_within : (w : Impl) (xs : List Impl) → place_among w xs ≤ length xs
place_within w [] = omega arith
place_within w (x ∷ xs) = elim (goes_before w x) as (λ b. cond b 0 (suc (place_among w xs)) ≤ suc (length xs)) [
  | true ↦ omega arith
  | false ↦ omega (arith, place_within w xs)
]

pub ordered_none : InHookOrder []
ordered_none = all_pairs_of RunsBefore [] tt

pub ordered_one : (w : Impl) → InHookOrder (w ∷ [])
ordered_one w = all_pairs_of RunsBefore (w ∷ []) (tt, tt)

pub ordered_two : (w x : Impl) → RunsBefore w x → InHookOrder (w ∷ x ∷ [])
ordered_two w x h = all_pairs_of RunsBefore (w ∷ x ∷ []) ((h, tt), (tt, tt))
