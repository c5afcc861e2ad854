-- What a feed of drawn numbers is seen as.
use Rattle.std.specs.Prelude.{◌≡◌, ℕ, ◌<◌, ◌≤◌, ◌⊎◌, Bool, List, [], ◌∷◌, ◌++◌, drop, Option, None, is_some, IfSome}
use Rattle.std.specs.Option.{option_to_list}
use Rattle.atomic_table.specs.Table.{Me}
use Rattle.atomic_table.specs.Seated.{TableId}
use Rattle.share_files.specs.declared.rule.Range.{Range}
use Rattle.share_files.specs.declared.rule.Counts.{Counts}
use Rattle.share_files.specs.Deal.{RisesFrom, Every}
use Rattle.share_files.specs.Rule.{range, all_workers}

-- where the numbers of a feed come from: one thread's own count, or a shared word and the worker that draws
pub data Origin : Type 0 where
  Alone : Origin
  Drawn : TableId → ℕ → Origin

-- its shared word, its worker, the number of groups, the groups that it gave, and the number drawn that isn't below that number
pub record FeedState : Type 0 where
  pub table : TableId
  pub worker : ℕ
  pub limit : ℕ
  pub given : List ℕ
  pub last : Option ℕ

abbrev pub origin : FeedState → Origin
origin f = Drawn f.table f.worker

abbrev pub given : FeedState → List ℕ
given f = f.given

abbrev pub limit : FeedState → ℕ
limit f = f.limit

-- it has answered None
abbrev pub has_ended : FeedState → Bool
has_ended f = is_some f.last

-- the numbers drawn: the first group is the worker's own
abbrev pub numbers_drawn : List ℕ → Option ℕ → List ℕ
numbers_drawn taken last = drop 1 taken ++ option_to_list last

-- nothing was asked, or the worker's own group came first
abbrev pub OwnGroupFirst : ℕ → List ℕ → Option ℕ → Type 0
OwnGroupFirst worker taken last = ((taken ≡ []) × (last ≡ None)) ⊎ (taken ≡ worker ∷ drop 1 taken)

-- what holds of every feed: its seat is one of the shared word, and knows the numbers drawn
pub record IsFeed {S : Type 0} (shared own : TableId) (key : Counts) (me : Me S Range) (worker groups : ℕ) (taken : List ℕ) (room : ℕ) (last : Option ℕ) : Type 0 where
  pub table : own ≡ shared
  pub one_word : shared.words ≡ 1
  pub counted : key.groups ≡ groups
  pub numbers : me ≡ (range worker (numbers_drawn taken last ∷ []), [])
  pub inside : worker < groups
  pub reserved : groups ≤ room
  pub begun : OwnGroupFirst worker taken last
  pub rising : RisesFrom worker taken
  pub below : Every (λ n. n < groups) taken
  pub past : IfSome last (λ n. groups ≤ n)

-- nothing was drawn yet: the one seat has all workers
pub record IsUndrawn {S : Type 0} (shared : TableId) (key : Counts) (own : TableId) (me : Me S Range) (counts : Counts) : Type 0 where
  pub table : own ≡ shared
  pub one_word : (shared.words ≡ 1) × (shared.slots ≡ 0)
  pub counted : key ≡ counts
  pub all : me ≡ (all_workers counts, [])
  pub some : (1 ≤ counts.workers) × (counts.workers ≤ counts.groups)
