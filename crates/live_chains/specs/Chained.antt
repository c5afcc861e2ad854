-- What `Chains` are seen as, and what their arena and their heads mean.
use Rattle.std.specs.Prelude.{◌≡◌, ◌≢◌, ℕ, zero, suc, ◌<◌, ◌==◌, not, List, [], ◌∷◌, ◌++◌, length, map, Option, None, Some, IsSome, nat_lt, if◌then◌else◌, slice_index_or}
use Rattle.std.specs.List.{filter}
use Rattle.link_cells.specs.declared.id.CellId.{CellId}
use Rattle.link_cells.specs.Arena.{Arena, list_at_head}
use Rattle.session_types.specs.Members.{IsMember}
use Rattle.session_types.specs.Scopes.{rank, scope_count}
use Rattle.session_types.specs.declared.instance.Instance.{Instance}
use Rattle.live_chains.specs.declared.id.LiveId.{LiveId}

-- the live instances in order of set-up, their names in the same order, and how many more there is room for
pub record LiveList : Type 0 where
  pub live : List (Instance ℕ)
  pub ids : List LiveId
  pub spare : ℕ

abbrev pub id_order : LiveId → ℕ
id_order id = id.order

-- without the name of the one of this number
abbrev pub ids_without : ℕ → List LiveId → List LiveId
ids_without n ids = filter (λ id. not (n == id.order)) ids

-- an instance in its cell
abbrev pub InstanceCell : Type 0
InstanceCell = CellId × Instance ℕ

abbrev pub instance_of : InstanceCell → Instance ℕ
instance_of e = e.1

abbrev pub id_of : InstanceCell → LiveId
id_of e = record { order = e.1.order; cell = e.0 }

-- the list of a head that is in use
abbrev pub or_empty : Option (List InstanceCell) → List InstanceCell
or_empty None = []
or_empty (Some list) = list

abbrev pub head_at : List ℕ → ℕ → ℕ
head_at heads r = slice_index_or heads r 0

abbrev pub list_at : Arena (Instance ℕ) → ℕ → List InstanceCell
list_at arena head = or_empty (list_at_head arena head)

-- the chain of the scope of rank r
abbrev pub chain_at : Arena (Instance ℕ) → List ℕ → ℕ → List InstanceCell
chain_at arena heads r = list_at arena (head_at heads r)

-- the chains of the scopes below rank r, one behind the other
abbrev pub chains_below : (ℕ → List InstanceCell) → ℕ → List InstanceCell
chains_below chains zero = []
chains_below chains (suc r) = chains r ++ chains_below chains r

abbrev pub insert : InstanceCell → List InstanceCell → List InstanceCell
insert e [] = e ∷ []
insert e (x ∷ xs) = if nat_lt e.1.order x.1.order then e ∷ (x ∷ xs) else x ∷ insert e xs

-- in order of set-up
abbrev pub by_order : List InstanceCell → List InstanceCell
by_order [] = []
by_order (e ∷ es) = insert e (by_order es)

-- the instances of all chains in order of set-up
abbrev pub merged : Arena (Instance ℕ) → List ℕ → List InstanceCell
merged arena heads = by_order (chains_below (chain_at arena heads) scope_count)

abbrev pub chains_as_list : Arena (Instance ℕ) → List ℕ → LiveList
chains_as_list arena heads = record { live = map instance_of (merged arena heads); ids = map id_of (merged arena heads); spare = arena.spare }

-- no two have the same key
abbrev pub Apart : {A K : Type 0} → (A → K) → List A → Type 0
Apart key [] = Unit {0}
Apart {A} key (x ∷ xs) = ((y : A) → IsMember y xs → key y ≢ key x) × Apart key xs

abbrev pub order_key : InstanceCell → ℕ
order_key e = e.1.order

abbrev pub cell_key : InstanceCell → ℕ
cell_key e = e.0.cell

abbrev pub place_of : Instance ℕ → ℕ × ℕ
place_of i = (i.def, i.node)

abbrev pub place_key : InstanceCell → ℕ × ℕ
place_key e = place_of e.1

-- the head is in use, and no two of its entries have one cell
pub record IsChain (arena : Arena (Instance ℕ)) (head : ℕ) : Type 0 where
  pub used : IsSome (list_at_head arena head)
  pub apart : Apart cell_key (list_at arena head)

-- each later one has a greater number
abbrev pub RisingBy : {A : Type 0} → (A → ℕ) → List A → Type 0
RisingBy number [] = Unit {0}
RisingBy {A} number (x ∷ xs) = ((y : A) → IsMember y xs → number x < number y) × RisingBy number xs

-- a chain has one scope and is in order, and no two instances share a number, a cell, or definition and node
pub record Good (chains : ℕ → List InstanceCell) : Type 0 where
  pub ranks : (r : ℕ) (e : InstanceCell) → r < scope_count → IsMember e (chains r) → rank e.1.scope ≡ r
  pub rising : (r : ℕ) → r < scope_count → RisingBy order_key (chains r)
  pub orders : Apart order_key (chains_below chains scope_count)
  pub cells : Apart cell_key (chains_below chains scope_count)
  pub places : Apart place_key (chains_below chains scope_count)

-- each scope has a head of its own, in use
pub record IsChains (arena : Arena (Instance ℕ)) (heads : List ℕ) : Type 0 where
  pub many : length heads ≡ scope_count
  pub used : (r : ℕ) → r < scope_count → IsSome (list_at_head arena (head_at heads r))
  pub apart : (r s : ℕ) → r < scope_count → s < scope_count → r ≢ s → head_at heads r ≢ head_at heads s
  pub good : Good (chain_at arena heads)

-- so many heads are in use, each with an empty list, and no two are one
pub record AreTaken (arena : Arena (Instance ℕ)) (heads : List ℕ) (n : ℕ) : Type 0 where
  pub many : length heads ≡ n
  pub empty : (r : ℕ) → r < n → list_at_head arena (head_at heads r) ≡ Some []
  pub apart : (r s : ℕ) → r < n → s < n → r ≢ s → head_at heads r ≢ head_at heads s
