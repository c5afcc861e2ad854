-- Lists that rise.
use Rattle.std.proofs.Common.{◌≡◌, ℕ, zero, suc, ◌+◌, ◌<◌, ◌≤◌, List, [], ◌∷◌, ◌++◌, length, drop, take, replicate, ◌/◌, length-append, zero-add, suc-add, refl, sym, ap, ◌∙◌, subst, arith, inl, inr, Option, None, Some, IfSome, IsSome, filter, nat_lt, Bool, cond}
use Rattle.std.proofs.lemmas.Bool.{lt-ltb, le-ltb}
use Rattle.share_files.specs.Fed.{OwnGroupFirst, numbers_drawn}
use Rattle.share_files.specs.Work.{Took, IsRange}
use Rattle.share_files.specs.Deal.{RisesFrom, Every, times}
use Rattle.std.proofs.lemmas.Option.{none-some}
use Rattle.std.proofs.lemmas.List.{length-replicate}
use Rattle.atomic_table.specs.Table.{Me}
use Rattle.share_files.specs.declared.rule.Range.{Range}
use Rattle.share_files.specs.Rule.{range, past, lower_half, upper_half}
use Rattle.share_files.proofs.Dealt.{times_else}
use Rattle.share_files.proofs.Views.{past_below, past_at, past-append, Every-append}

-- a number at the end of a list that rises is above all others
pub last_above : (low n : ℕ) (xs : List ℕ) → RisesFrom low (xs ++ n ∷ []) → (low ≤ n) × (times n xs ≡ 0)
last_above low n [] r = (r.0, refl)
last_above low n (x ∷ xs) r =
    let h = last_above (x + 1) n xs r.1 in
    (omega (arith, r.0, h.0), times_else n x xs (λ e. omega (arith, e, h.0)) ∙ h.1)

-- a list that rises below a number isn't longer than that
pub rising_length : (low high : ℕ) (xs : List ℕ) → RisesFrom low xs → Every (λ n. n < high) xs → low ≤ high → low + length xs ≤ high
rising_length low high [] r b le = omega (arith, le)
rising_length low high (x ∷ xs) r b le = omega (arith, r.0, rising_length (x + 1) high xs r.1 b.1 (omega (arith, b.0)))

pub none_past_below : (groups : ℕ) (xs : List ℕ) → Every (λ n. n < groups) xs → past groups xs ≡ 0
none_past_below groups [] b = refl
none_past_below groups (x ∷ xs) b = omega (arith, past_below groups x b.0, none_past_below groups xs b.1)

pub none_past_rest : (groups : ℕ) (xs : List ℕ) → Every (λ n. n < groups) xs → past groups (drop 1 xs) ≡ 0
none_past_rest groups [] b = refl
none_past_rest groups (x ∷ xs) b = none_past_below groups xs b.1

-- there is room for one more
pub room_left : (low high n : ℕ) (xs : List ℕ) → RisesFrom low (xs ++ n ∷ []) → Every (λ k. k < high) xs → n < high → low < high → length xs < high
room_left low high n xs r b lt le = let h = rising_length low high (xs ++ n ∷ []) r (Every-append (λ k. k < high) xs (n ∷ []) b (lt, tt)) (omega (arith, le)) in omega (arith, h, length-append xs (n ∷ []))

filter_none_out : (groups : ℕ) (xs : List ℕ) → Every (λ k. k < groups) xs → filter (λ k. nat_lt k groups) xs ≡ xs
filter_none_out groups [] b = refl
filter_none_out groups (x ∷ xs) b = rw (lt-ltb x groups b.0) (ap (λ (l : List ℕ). x ∷ l) (filter_none_out groups xs b.1))

filter_last_out : (groups n : ℕ) (xs : List ℕ) → Every (λ k. k < groups) xs → groups ≤ n → filter (λ k. nat_lt k groups) (xs ++ n ∷ []) ≡ xs
filter_last_out groups n [] b le = rw (le-ltb n groups le) refl
filter_last_out groups n (x ∷ xs) b le = rw (lt-ltb x groups b.0) (ap (λ (l : List ℕ). x ∷ l) (filter_last_out groups n xs b.1 le))

Every_rest : (P : ℕ → Type 0) (xs : List ℕ) → Every P xs → Every P (drop 1 xs)
Every_rest P [] b = tt
Every_rest P (x ∷ xs) b = b.1

-- what a feed that has ended gave
pub took_all : (worker groups : ℕ) (taken : List ℕ) (last : Option ℕ) → OwnGroupFirst worker taken last → Every (λ k. k < groups) taken → IfSome last (λ n. groups ≤ n) → IsSome last
    → Took groups worker (numbers_drawn taken last ∷ []) (taken ∷ [])
took_all worker groups taken None begun below reached is = absurd (subst (λ (b : Bool). cond b ⊥ (Unit {0})) is tt)
took_all worker groups taken (Some n) begun below reached is = elim begun [
  | inl none ↦ absurd (none-some n (sym none.1))
  | inr e ↦ (
    e ∙ ap (λ (l : List ℕ). worker ∷ l) (sym (filter_last_out groups n (drop 1 taken) (Every_rest (λ k. k < groups) taken below) reached)),
    omega (arith, past-append groups (drop 1 taken) (n ∷ []), past_at groups n reached),
    tt,
  )
]

pub one_range : {S : Type 0} (k : ℕ) (l : List ℕ) (me : Me S Range) → me ≡ (range k (l ∷ []), []) → IsRange k 1 me
one_range {S} k l me e = subst (λ (m : Me S Range). IsRange k 1 m) (sym e) (refl, refl)

take_replicate : {A : Type 0} (n m : ℕ) (a : A) → take n (replicate (n + m) a) ≡ replicate n a
take_replicate zero m a = refl
take_replicate (suc n) m a = rw (suc-add n m) (ap (λ l. a ∷ l) (take_replicate n m a))

drop_replicate : {A : Type 0} (n m : ℕ) (a : A) → drop n (replicate (n + m) a) ≡ replicate m a
drop_replicate zero m a = rw (zero-add m) refl
drop_replicate (suc n) m a = rw (suc-add n m) (drop_replicate n m a)

-- the halves of a range of which nobody drew
pub lower_blank : {S : Type 0} (first low high : ℕ) (me : Me S Range) → me ≡ (range first (replicate (low + high) []), []) → low ≡ (low + high) / 2 → ◌≡◌ {A = Me S Range} (lower_half me.0, me.1) (range first (replicate low []), [])
lower_blank {S} first low high me e half =
    subst (λ (m : Me S Range). ◌≡◌ {A = Me S Range} (lower_half m.0, m.1) (range first (replicate low []), [])) (sym e)
    (ap {B = Me S Range} (λ (ls : List (List ℕ)). (range first ls, [])) (ap (λ n. take n (replicate (low + high) [])) (ap (λ n. n / 2) (length-replicate {A = List ℕ} (low + high) []) ∙ sym half) ∙ take_replicate low high []))

pub upper_blank : {S : Type 0} (first low high : ℕ) (me : Me S Range) → me ≡ (range first (replicate (low + high) []), []) → low ≡ (low + high) / 2 → upper_half me.0 ≡ range (first + low) (replicate high [])
upper_blank {S} first low high me e half =
    subst (λ (m : Me S Range). upper_half m.0 ≡ range (first + low) (replicate high [])) (sym e)
    (ap (λ n. range (first + n) (drop n (replicate (low + high) []))) (ap (λ n. n / 2) (length-replicate {A = List ℕ} (low + high) []) ∙ sym half)
    ∙ ap (range (first + low)) (drop_replicate low high []))
