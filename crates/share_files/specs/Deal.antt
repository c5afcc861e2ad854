-- How numbers fall to workers: whoever draws is given the next one.
use Rattle.std.specs.Prelude.{◌≡◌, ℕ, zero, suc, ◌+◌, ◌<◌, ◌≤◌, ◌⊎◌, ◌==◌, List, [], ◌∷◌, length, if◌then◌else◌, Some, slice_get}

-- the numbers of worker k, where `draws` are the workers in the order in which they draw, and the first of them is given `next`
abbrev pub drawn : ℕ → ℕ → List ℕ → List ℕ
drawn k next [] = []
drawn k next (who ∷ draws) = if who == k then next ∷ drawn k (next + 1) draws else drawn k (next + 1) draws

-- the lists of `count` workers, from worker k on
abbrev pub lists_from : ℕ → ℕ → ℕ → List ℕ → List (List ℕ)
lists_from k zero next draws = []
lists_from k (suc count) next draws = drawn k next draws ∷ lists_from (k + 1) count next draws

-- the lists of n workers, where the first draw gives n
abbrev pub deal : ℕ → List ℕ → List (List ℕ)
deal n draws = lists_from 0 n n draws

-- each number is above the one before it, and the first is at least `low`
abbrev pub RisesFrom : ℕ → List ℕ → Type 0
RisesFrom low [] = Unit {0}
RisesFrom low (x ∷ xs) = (low ≤ x) × RisesFrom (x + 1) xs

-- P of each element
abbrev pub Every : {A : Type 0} → (A → Type 0) → List A → Type 0
Every P [] = Unit {0}
Every P (x ∷ xs) = P x × Every P xs

-- how often x stands in a list
abbrev pub times : ℕ → List ℕ → ℕ
times x [] = 0
times x (y ∷ ys) = (if y == x then 1 else 0) + times x ys

-- how often x stands in some lists, all told
abbrev pub times_in : ℕ → List (List ℕ) → ℕ
times_in x [] = 0
times_in x (l ∷ ls) = times x l + times_in x ls

-- each number from `low` to below `high` stands in exactly one of the lists, once, and no other number in any
pub record EachOnce (low high : ℕ) (lists : List (List ℕ)) : Type 0 where
  pub each : (x : ℕ) → low ≤ x → x < high → times_in x lists ≡ 1
  pub no_other : (x : ℕ) → (x < low) ⊎ (high ≤ x) → times_in x lists ≡ 0

-- how many numbers below `limit` don't stand in a list
abbrev pub left : ℕ → List ℕ → ℕ
left zero given = 0
left (suc n) given = (if times n given == 0 then 1 else 0) + left n given

-- the lists begin with the numbers from k on, one each
abbrev pub BeginWith : ℕ → List (List ℕ) → Type 0
BeginWith k [] = Unit {0}
BeginWith k (l ∷ ls) = (slice_get l 0 ≡ Some k) × BeginWith (k + 1) ls

-- what n workers take, a list each: each group in exactly one list, group k below n first in that of worker k, and each list rises
pub record Share (groups n : ℕ) (lists : List (List ℕ)) : Type 0 where
  pub workers : length lists ≡ n
  pub once : EachOnce 0 groups lists
  pub first : BeginWith 0 lists
  pub rising : Every (RisesFrom 0) lists
