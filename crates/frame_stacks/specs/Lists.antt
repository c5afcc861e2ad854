-- The values of the lists of an arena.
use Rattle.std.specs.Prelude.{◌≡◌, ◌≢◌, ℕ, List, [], ◌∷◌, map, Option, Some, None, IsSome, slice_index_or, ⊤}
use Rattle.link_cells.specs.declared.id.CellId.{CellId}
use Rattle.link_cells.specs.Arena.{Arena, list_at_head}
use Rattle.frame_stacks.specs.declared.parked.Parked.{Parked}
use Rattle.frame_stacks.specs.Stacked.{FrozenList, StackLists}

module _ {T : Type 0} where
  abbrev pub value_in : CellId × T → T
  value_in e = e.1

  abbrev pub values_of : Option (List (CellId × T)) → List T
  values_of None = []
  values_of (Some es) = map value_in es

  -- the values of the list of a head, the first one first
  abbrev pub values_at : Arena T → ℕ → List T
  values_at arena head = values_of (list_at_head arena head)

  -- the lists of other heads stay
  abbrev pub Others : ℕ → Arena T → Arena T → Type 0
  Others head old new = (k : ℕ) → k ≢ head → list_at_head new k ≡ list_at_head old k

  -- the first value is taken, where there is one
  abbrev pub Taken : Option T → List T → List T → Type 0
  Taken (Some x) old new = old ≡ x ∷ new
  Taken None old new = (old ≡ []) × (new ≡ [])

module _ {B : Type 0} where
  abbrev pub parked_at : ℕ → List (Option (Parked B)) → Option (Parked B)
  parked_at number parked = slice_index_or parked number None

  -- the head of a frozen list is another one
  abbrev pub IsAway : ℕ → Option (Parked B) → Type 0
  IsAway head (Some p) = p.head ≢ head
  IsAway head None = ⊤

  abbrev pub Away : ℕ → List (Option (Parked B)) → Type 0
  Away head [] = ⊤
  Away head (p ∷ ps) = IsAway head p × Away head ps

  -- from the heads of the others
  abbrev pub IsApart : Option (Parked B) → List (Option (Parked B)) → Type 0
  IsApart (Some p) ps = Away p.head ps
  IsApart None ps = ⊤

module _ {T B : Type 0} where
  -- a frozen list, by its head
  abbrev pub frozen_in : Arena T → Option (Parked B) → Option (FrozenList T B)
  frozen_in arena (Some p) = Some (record { stack = values_at arena p.head; body = p.body })
  frozen_in arena None = None

  abbrev pub stacks_in : Arena T → ℕ → List (Option (Parked B)) → StackLists T B
  stacks_in arena own all = record { own = values_at arena own; frozen = map (frozen_in arena) all }

  abbrev pub IsUsed : Arena T → Option (Parked B) → Type 0
  IsUsed arena (Some p) = IsSome (list_at_head arena p.head)
  IsUsed arena None = ⊤

  -- each has a head of its own, in use
  abbrev pub AreParked : Arena T → List (Option (Parked B)) → Type 0
  AreParked arena [] = ⊤
  AreParked arena (p ∷ ps) = IsUsed arena p × (IsApart p ps × AreParked arena ps)

  -- so has the own list
  pub record AreStacks (arena : Arena T) (own : ℕ) (all : List (Option (Parked B))) : Type 0 where
    pub used : IsSome (list_at_head arena own)
    pub away : Away own all
    pub parked : AreParked arena all
