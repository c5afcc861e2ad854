-- Of more different ids than there are in a list, one isn't there.
use Rattle.std.proofs.Common.{◌≡◌, ℕ, ◌+◌, ◌^◌, ◌<◌, ◌≤◌, Bool, true, false, not, List, [], ◌∷◌, ◌++◌, length, Option, Some, None, suc, zero, map, refl, ap, sym, subst, ◌∙◌, arith, inl, inr, if◌then◌else◌, Decides}
use Rattle.std.specs.Prelude.{find, unwrap_or}
use Rattle.std.specs.List.{range_with_len}
use Rattle.std.specs.Fmt.{decimal}
use Rattle.std.proofs.lemmas.Bool.{cases_Bool, cases_eq, false≢true, or_cases, or_left, or_right, not_from_true, not-true, not-false}
use Rattle.std.proofs.lemmas.List.{append_cancel_left}
use Rattle.std.proofs.lemmas.Fmt.{decimal_injective}
use Rattle.std.proofs.lemmas.Slice.Eq.{bytes_eq-Decides}
use Rattle.param_rows.specs.Taken.{TakenTo}
use Rattle.param_rows.specs.Ids.{Id, same_id, has_id, joint, numbered, id_candidates, first_free}

pub same_id-Decides : (one other : Id) → Decides (same_id one other) (one ≡ other)
same_id-Decides one other = bytes_eq-Decides one other

abbrev without : Id → List Id → List Id
without id [] = []
without id (one ∷ ids) = if same_id one id then ids else (one ∷ without id ids)

length-without : (id : Id) (ids : List Id) → has_id id ids ≡ true → length ids ≡ suc (length (without id ids))
length-without id [] h = absurd (false≢true h)
length-without id (one ∷ ids) h = elim (cases_Bool (same_id one id)) [
  | inl s ↦ rw s refl
  | inr d ↦ let there : has_id id ids ≡ true = (rw d at h) in rw d (ap suc (length-without id ids there))
]

has_without : (id other : Id) (ids : List Id) → has_id other ids ≡ true → (other ≡ id → ⊥) → has_id other (without id ids) ≡ true
has_without id other [] h ne = absurd (false≢true h)
has_without id other (one ∷ ids) h ne = elim (cases_Bool (same_id one id)) [
  | inl s ↦ elim (or_cases (same_id one other) (has_id other ids) h) [
    | inl same ↦ absurd (ne (sym ((same_id-Decides one other).0 same) ∙ (same_id-Decides one id).0 s))
    | inr there ↦ rw s there
  ]
  | inr d ↦ elim (or_cases (same_id one other) (has_id other ids) h) [
    | inl same ↦ rw d (or_left (same_id one other) (has_id other (without id ids)) same)
    | inr there ↦ rw d (or_right (same_id one other) (has_id other (without id ids)) (has_without id other ids there ne))
  ]
]

-- so many and one more that differ don't all stand in the list
pub pigeon : (f : ℕ → Id) (n : ℕ) (ids : List Id) → length ids ≡ n → ((k : ℕ) → k ≤ n → has_id (f k) ids ≡ true) → ((j k : ℕ) → j < k → k ≤ n → f j ≡ f k → ⊥) → ⊥
pigeon f zero [] e all apart = false≢true (all 0 (omega arith))
pigeon f zero (one ∷ ids) e all apart = absurd (omega arith)
pigeon f (suc n) ids e all apart =
    let last : has_id (f (suc n)) ids ≡ true = all (suc n) (omega arith) in
    let shorter : length ids ≡ suc (length (without (f (suc n)) ids)) = length-without (f (suc n)) ids last in
    pigeon f n (without (f (suc n)) ids) (omega arith)
    (λ k le. has_without (f (suc n)) (f k) ids (all k (omega arith)) (λ s. apart k (suc n) (omega arith) (omega arith) s))
    (λ j k lt le. apart j k lt (omega arith))

numbered_apart : (id : Id) (j k : ℕ) → j < 2 ^ 64 → k < 2 ^ 64 → numbered id j ≡ numbered id k → j ≡ k
unfolding numbered
numbered_apart id j k jl kl e = decimal_injective j k jl kl (append_cancel_left (id ++ joint id) (decimal j) (decimal k) e)

-- the numbers up to the length of a list aren't all taken by it
pub not_all_taken : (id : Id) (taken : List Id) → length taken < 2 ^ 64 → ((k : ℕ) → k ≤ length taken → has_id (numbered id k) taken ≡ true) → ⊥
not_all_taken id taken short all = pigeon (numbered id) (length taken) taken refl all (λ j k lt le e. let s : j ≡ k = numbered_apart id j k (omega arith) (omega arith) e in omega arith)

find_first : (p : Id → Bool) (f : ℕ → Id) (a n m : ℕ) → ((j : ℕ) → a ≤ j → j < m → p (f j) ≡ false) → p (f m) ≡ true → a ≤ m → m < a + n → find p (map f (range_with_len a n)) ≡ Some (f m)
find_first p f a zero m before here from to = absurd (omega arith)
find_first p f a (suc n) m before here from to = elim (cases_eq a m) [
  | inl s ↦ let at : p (f a) ≡ true = subst (λ (k : ℕ). p (f k) ≡ true) (sym s) here in rw at (ap (λ (k : ℕ). Some (f k)) s)
  | inr ne ↦ let less : a < m = omega arith in
      let fails : p (f a) ≡ false = before a (omega arith) less in
      rw fails (find_first p f (a + 1) n m (λ j g. before j (omega arith)) here (omega arith) (omega arith))
]

-- the first number that isn't taken
pub first_free_at : (taken : List Id) (id one : Id) (m : ℕ) → one ≡ numbered id m → m ≤ length taken → not (has_id one taken) ≡ true → ((j : ℕ) → j < m → has_id (numbered id j) taken ≡ true) → one ≡ first_free taken id
first_free_at taken id one m is le free before =
    let here : not (has_id (numbered id m) taken) ≡ true = subst (λ (x : Id). not (has_id x taken) ≡ true) is free in
    is ∙ sym (ap (λ (o : Option Id). unwrap_or o id)
    (find_first (λ x. not (has_id x taken)) (numbered id) 0 (suc (length taken)) m (λ j g lt. not_from_true (has_id (numbered id j) taken) (before j lt)) here (omega arith) (omega arith)))

-- one number more that is taken
pub first_taken : (taken : List Id) (id one : Id) (m : ℕ) → one ≡ numbered id m → (free : Bool) → free ≡ not (has_id one taken) → free ≡ false → ((j : ℕ) → j < m → has_id (numbered id j) taken ≡ true) → (j : ℕ) → j < m + 1 → has_id (numbered id j) taken ≡ true
first_taken taken id one m is free says taken_so before j lt = elim (cases_eq j m) [
  | inl s ↦ subst (λ (k : ℕ). has_id (numbered id k) taken ≡ true) (sym s) (subst (λ (x : Id). has_id x taken ≡ true) is (not-false (has_id one taken) (sym says ∙ taken_so)))
  | inr ne ↦ before j (omega arith)
]

-- the first that passes is found, or none does
pub data Found (p : Id → Bool) (f : ℕ → Id) (a n : ℕ) : Option Id → Type 0 where
  Nowhere : ((k : ℕ) → a ≤ k → k < a + n → p (f k) ≡ false) → Found p f a n None
  There : (m : ℕ) → ((k : ℕ) → a ≤ k → k < m → p (f k) ≡ false) → p (f m) ≡ true → Found p f a n (Some (f m))

fails_from : (p : Id → Bool) (f : ℕ → Id) (a b : ℕ) → p (f a) ≡ false → ((k : ℕ) → a + 1 ≤ k → k < b → p (f k) ≡ false) → (k : ℕ) → a ≤ k → k < b → p (f k) ≡ false
fails_from p f a b fails later k g lt = elim (cases_eq a k) [
  | inl s ↦ subst (λ (j : ℕ). p (f j) ≡ false) s fails
  | inr ne ↦ later k (omega arith) lt
]

found_later : (p : Id → Bool) (f : ℕ → Id) (a n : ℕ) (o : Option Id) → p (f a) ≡ false → Found p f (a + 1) n o → Found p f a (suc n) o
found_later p f a n _ fails (Nowhere none) = Nowhere (fails_from p f a (a + suc n) fails (λ k g lt. none k g (omega arith)))
found_later p f a n _ fails (There m before h) = There m (fails_from p f a m fails before) h

found : (p : Id → Bool) (f : ℕ → Id) (a n : ℕ) → Found p f a n (find p (map f (range_with_len a n)))
found p f a zero = Nowhere (λ k g lt. absurd (omega arith))
found p f a (suc n) = elim (cases_Bool (p (f a))) [
  | inl h ↦ rw h (There a (λ k g lt. absurd (omega arith)) h)
  | inr h ↦ rw h (found_later p f a n (find p (map f (range_with_len (a + 1) n))) h (found p f (a + 1) n))
]

-- what is given is the id with a number; all smaller numbers are taken, and this one isn't
pub record First (taken : List Id) (id one : Id) : Type 0 where
  pub number : ℕ
  pub is : one ≡ numbered id number
  pub before : TakenTo taken id number
  pub free : has_id one taken ≡ false

first_of : (taken : List Id) (id : Id) (o : Option Id) → length taken < 2 ^ 64 → Found (λ one. not (has_id one taken)) (numbered id) 0 (suc (length taken)) o → First taken id (unwrap_or o id)
first_of taken id _ short (Nowhere none) = absurd (not_all_taken id taken short (λ k le. not-false (has_id (numbered id k) taken) (none k (omega arith) (omega arith))))
first_of taken id _ short (There m before h) = record {
  number = m;
  is = refl;
  before = λ k lt. not-false (has_id (numbered id k) taken) (before k (omega arith) lt);
  free = not-true (has_id (numbered id m) taken) h;
}

pub first_free_is : (taken : List Id) (id : Id) → length taken < 2 ^ 64 → First taken id (first_free taken id)
first_free_is taken id short = first_of taken id (find (λ one. not (has_id one taken)) (id_candidates id taken)) short (found (λ one. not (has_id one taken)) (numbered id) 0 (suc (length taken)))
