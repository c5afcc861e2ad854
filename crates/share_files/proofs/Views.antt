-- Sums over the views, and what a change of one or two of them leaves.
use Rattle.std.proofs.Common.{◌≡◌, ◌≢◌, ◌⊎◌, ℕ, zero, suc, ◌+◌, ◌<◌, ◌≤◌, cond, List, [], ◌∷◌, ◌++◌, length, set, take, drop, replicate, min, ◌/◌, inl, inr, refl, sym, ap, ◌∙◌, arith, length-append, leb, lt_of_not-le}
use native.Mathlib.Decide.{dec_le}
use mathlib.Core.Option.{some, some-injective, some-ne-none}
use lib.ListN.{get_elem?}
use Rattle.std.proofs.Math.Seq.{take-append_seam, drop-append_seam}
use Rattle.std.proofs.lemmas.Bool.{cases_eq}
use Rattle.share_files.specs.declared.rule.Range.{Range}
use Rattle.share_files.specs.Deal.{Every, times}
use Rattle.share_files.specs.Rule.{range, workers_from, covers, past, past_in, range_sum}
use Rattle.share_files.proofs.Dealt.{times_same, times_else, times-append}

pub lt_or_le : (a b : ℕ) → (a < b) ⊎ (b ≤ a)
lt_or_le a b = elim (dec_le b a) [ yes d ↦ inr d | no d ↦ inl (lt_of_not-le d) ]

pub total-set : (f : Range → ℕ) (views : List Range) (at : ℕ) (v w : Range) → get_elem? views at ≡ some v → range_sum f (set views at w) + f v ≡ range_sum f views + f w
total-set f [] at v w e = absurd (some-ne-none v (sym e))
total-set f (u ∷ us) zero v w e = let h : f u ≡ f v = ap f (some-injective u v e) in omega (arith, h)
total-set f (u ∷ us) (suc at) v w e = omega (arith, total-set f us at v w e)

pub total-snoc : (f : Range → ℕ) (views : List Range) (v : Range) → range_sum f (views ++ v ∷ []) ≡ range_sum f views + f v
total-snoc f [] v = omega arith
total-snoc f (u ∷ us) v = omega (arith, total-snoc f us v)

pub total_one : (f : Range → ℕ) (views : List Range) (at : ℕ) (v : Range) → get_elem? views at ≡ some v → f v ≤ range_sum f views
total_one f [] at v e = absurd (some-ne-none v (sym e))
total_one f (u ∷ us) zero v e = let h : f u ≡ f v = ap f (some-injective u v e) in omega (arith, h)
total_one f (u ∷ us) (suc at) v e = omega (arith, total_one f us at v e)

pub total_two : (f : Range → ℕ) (views : List Range) (i j : ℕ) (v w : Range) → get_elem? views i ≡ some v → get_elem? views j ≡ some w → j ≢ i → f v + f w ≤ range_sum f views
total_two f [] i j v w e d ne = absurd (some-ne-none v (sym e))
total_two f (u ∷ us) zero zero v w e d ne = absurd (ne refl)
total_two f (u ∷ us) zero (suc j) v w e d ne = let h : f u ≡ f v = ap f (some-injective u v e) in omega (arith, h, total_one f us j w d)
total_two f (u ∷ us) (suc i) zero v w e d ne = let h : f u ≡ f w = ap f (some-injective u w d) in omega (arith, h, total_one f us i v e)
total_two f (u ∷ us) (suc i) (suc j) v w e d ne = omega (arith, total_two f us i j v w e d (λ q. ne (ap suc q)))

pub total_le : (f h : Range → ℕ) (views : List Range) → ((at : ℕ) (v : Range) → get_elem? views at ≡ some v → f v ≤ h v) → range_sum f views ≤ range_sum h views
total_le f h [] le = omega arith
total_le f h (u ∷ us) le = omega (arith, le 0 u refl, total_le f h us (λ at v e. le (suc at) v e))

pub total_same : (f h : Range → ℕ) (views : List Range) → ((at : ℕ) (v : Range) → get_elem? views at ≡ some v → f v ≡ h v) → range_sum f views ≡ range_sum h views
total_same f h [] same = refl
total_same f h (u ∷ us) same = omega (arith, same 0 u refl, total_same f h us (λ at v e. same (suc at) v e))

-- a view is cut in two
pub total_cut : (f : Range → ℕ) (views : List Range) (at : ℕ) (v left right : Range) → get_elem? views at ≡ some v → f v ≡ f left + f right → range_sum f (set views at left ++ right ∷ []) ≡ range_sum f views
total_cut f views at v left right e sum = omega (arith, total-snoc f (set views at left) right, total-set f views at v left e, sum)

-- two views are one
pub total_joined : (f : Range → ℕ) (views : List Range) (i j : ℕ) (v w both spent : Range) → get_elem? views i ≡ some v → get_elem? (set views i both) j ≡ some w
    → f both ≡ f v + f w → f spent ≡ 0 → range_sum f (set (set views i both) j spent) ≡ range_sum f views
total_joined f views i j v w both spent e d sum none = omega (arith, total-set f (set views i both) j w spent d, total-set f views i v both e, sum, none)

pub workers_from-append : (k a b : ℕ) → workers_from k (a + b) ≡ workers_from k a ++ workers_from (k + a) b
workers_from-append k zero b = rw (eq_zero b) (ap (λ n. workers_from n b) (omega arith)) where
  eq_zero : (n : ℕ) → zero + n ≡ n
  eq_zero n = omega arith
workers_from-append k (suc a) b = rw (eq_suc a b) (ap (λ (ks : List ℕ). k ∷ ks) (workers_from-append (k + 1) a b ∙ ap (λ n. workers_from (k + 1) a ++ workers_from n b) (omega arith))) where
  eq_suc : (m n : ℕ) → suc m + n ≡ suc (m + n)
  eq_suc m n = omega arith

pub covers_cut : (k first : ℕ) (xs ys : List (List ℕ)) → covers k (range first (xs ++ ys)) ≡ covers k (range first xs) + covers k (range (first + length xs) ys)
covers_cut k first xs ys =
    ap (λ n. times k (workers_from first n)) (length-append xs ys)
    ∙ (ap (times k) (workers_from-append first (length xs) (length ys)) ∙ times-append k (workers_from first (length xs)) (workers_from (first + length xs) (length ys)))

-- whom a range covers
pub covers_below : (k first c : ℕ) → k < first → times k (workers_from first c) ≡ 0
covers_below k first zero lt = refl
covers_below k first (suc c) lt = times_else k first (workers_from (first + 1) c) (λ e. omega (arith, e, lt)) ∙ covers_below k (first + 1) c (omega (arith, lt))

pub covers_above : (k first c : ℕ) → first + c ≤ k → times k (workers_from first c) ≡ 0
covers_above k first zero le = refl
covers_above k first (suc c) le = times_else k first (workers_from (first + 1) c) (λ e. omega (arith, e, le)) ∙ covers_above k (first + 1) c (omega (arith, le))

pub covers_in : (k first c : ℕ) → first ≤ k → k < first + c → times k (workers_from first c) ≡ 1
covers_in k first zero le lt = absurd (omega (arith, le, lt))
covers_in k first (suc c) le lt = elim (cases_eq first k) [
  | inl e ↦ omega (arith, times_same k first (workers_from (first + 1) c) e, covers_below k (first + 1) c (omega (arith, e)))
  | inr ne ↦ times_else k first (workers_from (first + 1) c) ne ∙ covers_in k (first + 1) c (omega (arith, le, ne)) (omega (arith, lt))
]

pub past-append : (groups : ℕ) (xs ys : List ℕ) → past groups (xs ++ ys) ≡ past groups xs + past groups ys
past-append groups [] ys = omega arith
past-append groups (x ∷ xs) ys = let n : ℕ = cond (leb groups x) 1 0 in let h : n + past groups (xs ++ ys) ≡ n + (past groups xs + past groups ys) = ap (λ m. n + m) (past-append groups xs ys) in omega (arith, h)

pub past_in-append : (groups : ℕ) (xs ys : List (List ℕ)) → past_in groups (xs ++ ys) ≡ past_in groups xs + past_in groups ys
past_in-append groups [] ys = omega arith
past_in-append groups (x ∷ xs) ys = omega (arith, past_in-append groups xs ys)

pub past_few : (groups : ℕ) (ls : List (List ℕ)) → Every (λ l. past groups l ≤ 1) ls → past_in groups ls ≤ length ls
past_few groups [] few = omega arith
past_few groups (l ∷ ls) few = omega (arith, few.0, past_few groups ls few.1)

pub past_below : (groups x : ℕ) → x < groups → past groups (x ∷ []) ≡ 0
past_below groups x lt = rw (Rattle.std.proofs.lemmas.Bool.lt-leb groups x lt) refl

pub past_at : (groups x : ℕ) → groups ≤ x → past groups (x ∷ []) ≡ 1
past_at groups x le = rw (Rattle.std.proofs.lemmas.Bool.le-leb groups x le) refl

pub Every-append : {A : Type 0} (P : A → Type 0) (xs ys : List A) → Every P xs → Every P ys → Every P (xs ++ ys)
Every-append P [] ys a b = b
Every-append P (x ∷ xs) ys a b = (a.0, Every-append P xs ys a.1 b)

pub Every-left : {A : Type 0} (P : A → Type 0) (xs ys : List A) → Every P (xs ++ ys) → Every P xs
Every-left P [] ys a = tt
Every-left P (x ∷ xs) ys a = (a.0, Every-left P xs ys a.1)

pub Every-right : {A : Type 0} (P : A → Type 0) (xs ys : List A) → Every P (xs ++ ys) → Every P ys
Every-right P [] ys a = a
Every-right P (x ∷ xs) ys a = Every-right P xs ys a.1

pub append_left : {A : Type 0} (xs zs ys bs : List A) → length xs ≡ length zs → xs ++ ys ≡ zs ++ bs → xs ≡ zs
append_left xs zs ys bs len e = sym (take-append_seam xs ys) ∙ (ap (take (length xs)) e ∙ (ap (λ n. take n (zs ++ bs)) len ∙ take-append_seam zs bs))

pub append_right : {A : Type 0} (xs zs ys bs : List A) → length xs ≡ length zs → xs ++ ys ≡ zs ++ bs → ys ≡ bs
append_right xs zs ys bs len e = sym (drop-append_seam xs ys) ∙ (ap (drop (length xs)) e ∙ (ap (λ n. drop n (zs ++ bs)) len ∙ drop-append_seam zs bs))

pub half_min : (n : ℕ) → min (n / 2) n ≡ n / 2
half_min n = omega arith

pub none_past : (groups n : ℕ) → Every (λ l. past groups l ≤ 1) (replicate n [])
none_past groups zero = tt
none_past groups (suc n) = (omega arith, none_past groups n)
