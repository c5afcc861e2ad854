-- The rule over the shared word and over what the seats know.
use Rattle.std.specs.Prelude.{◌≡◌, ℕ, zero, suc, ◌+◌, ◌/◌, ◌^◌, ◌<◌, ◌≤◌, ◌⊎◌, List, [], ◌∷◌, ◌++◌, length, if◌then◌else◌, nat_le, replicate, take, drop}
use mathlib.Core.Option.{some}
use lib.ListN.{get_elem?}
use Rattle.atomic_table.specs.Table.{State, Step, Me}
use Rattle.share_files.specs.declared.rule.Range.{Range}
use Rattle.share_files.specs.declared.rule.Counts.{Counts}
use Rattle.share_files.specs.Deal.{lists_from, RisesFrom, Every, times, times_in}

abbrev pub range : ℕ → List (List ℕ) → Range
range first lists = record { first = first; lists = lists }

-- the workers of a range
abbrev pub workers_from : ℕ → ℕ → List ℕ
workers_from k zero = []
workers_from k (suc count) = k ∷ workers_from (k + 1) count

-- how often worker k stands in a range
abbrev pub covers : ℕ → Range → ℕ
covers k v = times k (workers_from v.first (length v.lists))

-- how many workers a range has
abbrev pub workers_in : Range → ℕ
workers_in v = length v.lists

-- how many numbers of a list reach the number of groups
abbrev pub past : ℕ → List ℕ → ℕ
past groups [] = 0
past groups (x ∷ xs) = (if nat_le groups x then 1 else 0) + past groups xs

abbrev pub past_in : ℕ → List (List ℕ) → ℕ
past_in groups [] = 0
past_in groups (l ∷ ls) = past groups l + past_in groups ls

abbrev pub all_past : ℕ → Range → ℕ
all_past groups v = past_in groups v.lists

-- a number of each view, added up
abbrev pub range_sum : (Range → ℕ) → List Range → ℕ
range_sum f [] = 0
range_sum f (v ∷ vs) = f v + range_sum f vs

-- what a view says: its lists are those of the workers of its range, and at most one number of each reaches the number of groups
pub record IsView (c : Counts) (draws : List ℕ) (v : Range) : Type 0 where
  pub lists : v.lists ≡ lists_from v.first (length v.lists) c.workers draws
  pub last : Every (λ l. past c.groups l ≤ 1) v.lists

-- what holds between any two steps
pub record SharingInvariant {S : Type 0} (c : Counts) (s : State S Range) : Type 0 where
  -- who drew, in order
  pub draws : List ℕ
  pub who : Every (λ k. k < c.workers) draws
  -- the word is the number of workers, and one more for each draw
  pub word : s.words ≡ (c.workers + length draws) ∷ []
  pub views : (at : ℕ) (v : Range) → get_elem? s.views at ≡ some v → IsView c draws v
  -- each worker is in the range of exactly one view
  pub each : (k : ℕ) → k < c.workers → range_sum (covers k) s.views ≡ 1
  pub no_other : (k : ℕ) → c.workers ≤ k → range_sum (covers k) s.views ≡ 0
  pub all : range_sum workers_in s.views ≡ c.workers
  -- each number that reaches the number of groups stands in a list
  pub bound : c.workers + length draws ≤ c.groups + range_sum (all_past c.groups) s.views
  pub counts : (c.workers ≤ c.groups) × (c.groups < 2 ^ 32)

-- at the start one seat has all workers, none of which drew
abbrev pub all_workers : Counts → Range
all_workers c = range 0 (replicate c.workers [])

-- a number more in the first list
abbrev pub with_drawn : ℕ → List (List ℕ) → List (List ℕ)
with_drawn n [] = []
with_drawn n (l ∷ ls) = (l ++ n ∷ []) ∷ ls

-- the number found is one more of the seat's worker, and all of them rise, above the worker's own
pub record Draws {S : Type 0} (step : Step S) (before : Me S Range) (found : ℕ) (after : Me S Range) : Type 0 where
  pub drew : after ≡ (range before.0.first (with_drawn found before.0.lists), before.1)
  pub rising : Every (RisesFrom (before.0.first + 1)) after.0.lists

abbrev pub lower_half : Range → Range
lower_half v = range v.first (take (length v.lists / 2) v.lists)

abbrev pub upper_half : Range → Range
upper_half v = range (v.first + length v.lists / 2) (drop (length v.lists / 2) v.lists)

abbrev pub joined_range : Range → Range → Range
joined_range v w = range v.first (v.lists ++ w.lists)

abbrev pub nobody : Range
nobody = range 0 []

-- all but the last are below a number
abbrev pub OnlyLast : ℕ → List ℕ → Type 0
OnlyLast groups [] = Unit {0}
OnlyLast groups (x ∷ []) = Unit {0}
OnlyLast groups (x ∷ y ∷ ys) = (x < groups) × OnlyLast groups (y ∷ ys)

-- what the rule says of the word and the views
pub record Says (c : Counts) (next : ℕ) (views : List Range) : Type 0 where
  -- the ranges are disjoint, and together all workers
  pub ranges : (k : ℕ) → k < c.workers → range_sum (covers k) views ≡ 1
  pub no_other : (k : ℕ) → c.workers ≤ k → range_sum (covers k) views ≡ 0
  -- the word is at least the number of workers, and at most the number of groups and that of workers
  pub word : (c.workers ≤ next) × (next ≤ c.groups + c.workers)
  -- each list rises, from the number of workers on
  pub rising : (at : ℕ) (v : Range) → get_elem? views at ≡ some v → Every (RisesFrom c.workers) v.lists
  -- each number from the number of workers to below the word stands in exactly one list, once, and no other number in any
  pub each : (x : ℕ) → c.workers ≤ x → x < next → range_sum (λ v. times_in x v.lists) views ≡ 1
  pub none : (x : ℕ) → (x < c.workers) ⊎ (next ≤ x) → range_sum (λ v. times_in x v.lists) views ≡ 0
  -- only the last number of a list may reach the number of groups
  pub last : (at : ℕ) (v : Range) → get_elem? views at ≡ some v → Every (OnlyLast c.groups) v.lists
