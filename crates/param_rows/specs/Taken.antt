-- Ids that are taken. An occurrence of an id looks for its number behind that of the occurrence before it.
use Rattle.std.specs.Prelude.{◌≡◌, ℕ, ◌<◌, true, List, [], ◌∷◌, ◌++◌, Some, is_some, if◌then◌else◌}
use Rattle.std.specs.Map.{lookup}
use Rattle.param_rows.specs.declared.taken.IdTable.{IdTable}
use Rattle.param_rows.specs.Ids.{Id, same_id, has_id, is_repeated, numbered}

-- the id with each number below a bound is taken
abbrev pub TakenTo : List Id → Id → ℕ → Type 0
TakenTo taken id bound = (n : ℕ) → n < bound → has_id (numbered id n) taken ≡ true

-- ids, each once, with one more
abbrev pub with_id : List Id → Id → List Id
with_id ids id = if has_id id ids then ids else (ids ++ id ∷ [])

-- what stands in one of two lists stands in the other
abbrev pub HaveSameIds : List Id → List Id → Type 0
HaveSameIds some others = (id : Id) → has_id id some ≡ has_id id others

-- the ids that are repeated have a number, and no others
abbrev pub NumbersRepeated : List (Id × ℕ) → List Id → Type 0
NumbersRepeated numbers ids = (id : Id) → is_some (lookup (same_id id) numbers) ≡ is_repeated id ids

-- a table of ids of which nothing is made yet: each number is 0
pub record TellsIds (ids : List Id) (table : IdTable) : Type 0 where
  pub taken : HaveSameIds table.taken ids
  pub repeated : NumbersRepeated table.numbers ids
  pub first : (id : Id) (n : ℕ) → lookup (same_id id) table.numbers ≡ Some n → n ≡ 0

-- a table of ids and of what was made: below the number of an id all are taken
pub record TellsMade (ids made : List Id) (table : IdTable) : Type 0 where
  pub taken : HaveSameIds table.taken (ids ++ made)
  pub repeated : NumbersRepeated table.numbers ids
  pub numbers : (id : Id) (n : ℕ) → lookup (same_id id) table.numbers ≡ Some n → TakenTo (ids ++ made) id n
