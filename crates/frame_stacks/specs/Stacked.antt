-- What a stack and the frozen ones are seen as.
use Rattle.std.specs.Prelude.{◌≡◌, ℕ, List, [], ◌∷◌, ◌++◌, Bool, true, false, Option, Some, None, slice_index_or, slice_set}

-- a list that is frozen, the innermost first, and what is kept with it
pub record FrozenList (T B : Type 0) : Type 0 where
  pub stack : List T
  pub body : B

-- the own list, the innermost first, and by number the frozen lists that are out
pub record StackLists (T B : Type 0) : Type 0 where
  pub own : List T
  pub frozen : List (Option (FrozenList T B))

module _ {T : Type 0} where
  abbrev pub first_of : List T → Option T
  first_of [] = None
  first_of (x ∷ xs) = Some x

  -- with another innermost value, where there is one
  abbrev pub with_first : T → List T → List T
  with_first y [] = []
  with_first y (x ∷ xs) = y ∷ xs

module _ {T B : Type 0} where
  -- the innermost value is taken, where there is one
  abbrev pub Popped : Option T → StackLists T B → StackLists T B → Type 0
  Popped (Some x) old new = old ≡ record new { own = x ∷ new.own }
  Popped None old new = (old.own ≡ []) × (new ≡ old)

  -- the frozen list of a number, where it is out
  abbrev pub frozen_at : StackLists T B → ℕ → Option (FrozenList T B)
  frozen_at s number = slice_index_or s.frozen number None

  abbrev pub is_there : Option (FrozenList T B) → Bool
  is_there (Some f) = true
  is_there None = false

  -- the list of a number isn't out any more
  abbrev pub without : StackLists T B → ℕ → StackLists T B
  without s number = record s { frozen = slice_set s.frozen number None }

  -- the frozen list of a number, where it is out, is put before the own one
  abbrev pub ThawedFrom : Option (FrozenList T B) → Option B → ℕ → StackLists T B → StackLists T B → Type 0
  ThawedFrom (Some f) result number old new = (result ≡ Some f.body) × (new ≡ record { own = f.stack ++ old.own; frozen = slice_set old.frozen number None })
  ThawedFrom None result number old new = (result ≡ None) × (new ≡ old)

  abbrev pub Thawed : Option B → ℕ → StackLists T B → StackLists T B → Type 0
  Thawed result number old new = ThawedFrom (frozen_at old number) result number old new
