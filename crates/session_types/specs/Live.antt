-- The live instances, what dies with one of them, and in which order.
use Rattle.std.specs.Prelude.{ℕ, zero, suc, ◌==◌, Bool, not, ◌||◌, ◌&&◌, List, [], ◌∷◌, ◌++◌, Option, Some, None, reverse, map, if◌then◌else◌}
use Rattle.std.specs.List.{filter, list_any}
use Rattle.session_types.specs.Numbers.{among}
use Rattle.session_types.specs.Scopes.{rank, scope_count}
use Rattle.session_types.specs.declared.instance.Instance.{Instance}

abbrev pub is_at : {S : Type 0} → ℕ → ℕ → Instance S → Bool
is_at d node i = (d == i.def) && (node == i.node)

-- the one of this definition on this node
abbrev pub find : {S : Type 0} → ℕ → ℕ → List (Instance S) → Option (Instance S)
find d node [] = None
find d node (i ∷ is) = if is_at d node i then Some i else find d node is

abbrev pub rests_on : {S : Type 0} → ℕ → Instance S → Bool
rests_on n i = (n == i.order) || among n i.bases

-- n, and all that depend on it
abbrev pub dependents : {S : Type 0} → ℕ → List (Instance S) → List (Instance S)
dependents n live = filter (rests_on n) live

abbrev pub is_off : {S : Type 0} → List ℕ → Instance S → Bool
is_off chain i = not (among i.node chain)

-- off the chain, or depends on one that is
abbrev pub has_off : {S : Type 0} → List (Instance S) → List ℕ → Instance S → Bool
has_off live chain i = list_any (λ g. is_off chain g && rests_on g.order i) live

-- all off the chain, and all that depend on one of these
abbrev pub not_on : {S : Type 0} → List ℕ → List (Instance S) → List (Instance S)
not_on chain live = filter (has_off live chain) live

-- those of one scope, later set-ups first
abbrev pub of_scope : {S : Type 0} → ℕ → List (Instance S) → List (Instance S)
of_scope r set = filter (λ i. r == rank i.scope) (reverse set)

-- those of the scopes below rank r, narrow scopes first
abbrev pub below_rank : {S : Type 0} → ℕ → List (Instance S) → List (Instance S)
below_rank zero set = []
below_rank (suc r) set = of_scope r set ++ below_rank r set

-- narrow scopes first, and within one scope later set-ups first
abbrev pub down_order : {S : Type 0} → List (Instance S) → List (Instance S)
down_order set = below_rank scope_count set

abbrev pub without : {S : Type 0} → ℕ → List (Instance S) → List (Instance S)
without n live = filter (λ i. not (n == i.order)) live

-- the one with this number
abbrev pub instance_by_number : {S : Type 0} → ℕ → List (Instance S) → Option (Instance S)
instance_by_number n [] = None
instance_by_number n (i ∷ is) = if n == i.order then Some i else instance_by_number n is

abbrev pub instance_number : {S : Type 0} → Instance S → ℕ
instance_number i = i.order

abbrev pub instance_numbers : {S : Type 0} → List (Instance S) → List ℕ
instance_numbers is = map instance_number is

-- the numbers of those of one scope, later set-ups first
abbrev pub scope_numbers : {S : Type 0} → ℕ → List (Instance S) → List ℕ
scope_numbers r set = instance_numbers (of_scope r set)
