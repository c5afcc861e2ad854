-- The order of items with parameters: those that need the same instances stand side by side (pytest's fixture guide, "Automatic
-- grouping of tests by fixture instances"; the exact order is the project's own).
use Rattle.std.specs.Prelude.{ℕ, Bool, true, false, List, [], ◌∷◌, ◌++◌, length, Option, None, Some, map, slice_get, slice_index_or, ◌==◌, ◌&&◌, if◌then◌else◌}
use Rattle.std.specs.List.{flat_map, filter, list_any, range_with_len}
use Rattle.std.specs.Cmp.Lexicographic.{pointwise}
use Rattle.session_types.specs.declared.scope.Scope.{Scope}
use Rattle.session_types.specs.declared.scope.Scope.TheVariants.{Session, Module, Class, Function}
use Rattle.session_types.specs.Scopes.{rank}
use Rattle.param_rows.specs.declared.keys.ItemKeys.{ItemKeys}

module _ {A : Type 0} (same : A → A → Bool) where
  abbrev pub is_seen : List A → A → Bool
  is_seen seen x = list_any (λ y. same y x) seen

  -- the first of each group, in order, but of those groups that were seen before
  abbrev pub firsts : List A → List A → List A
  firsts seen [] = []
  firsts seen (x ∷ xs) = if is_seen seen x then firsts seen xs else (x ∷ firsts (seen ++ x ∷ []) xs)

  -- grouped stably: the groups in order of first appearance, each in its old order
  abbrev pub grouped : List A → List A
  grouped xs = flat_map (λ first. filter (λ x. same first x) xs) (firsts [] xs)

  -- a list before stretches: in the first of them where it goes on, else a stretch of its own
  abbrev pub onto : A → List (List A) → List (List A)
  onto x [] = (x ∷ []) ∷ []
  onto x ([] ∷ rest) = (x ∷ []) ∷ rest
  onto x ((y ∷ ys) ∷ rest) = if same x y then ((x ∷ y ∷ ys) ∷ rest) else ((x ∷ []) ∷ (y ∷ ys) ∷ rest)

  -- the longest runs of neighbours that are the same
  abbrev pub stretches : List A → List (List A)
  stretches [] = []
  stretches (x ∷ xs) = onto x (stretches xs)

-- a parameter of a scope: its fixture and its number
abbrev pub pair_of : Scope → Scope × ℕ × ℕ → List (ℕ × ℕ)
pair_of scope param = if rank param.0 == rank scope then ((param.1, param.2) ∷ []) else []

-- what an item needs of a scope
abbrev pub key_of : Scope → List (Scope × ℕ × ℕ) → List (ℕ × ℕ)
key_of scope params = flat_map (pair_of scope) params

abbrev pub keys_of : Scope → List ItemKeys → List (List (ℕ × ℕ))
keys_of scope items = map (λ item. key_of scope item.params) items

abbrev pub same_pair : ℕ × ℕ → ℕ × ℕ → Bool
same_pair one other = (one.0 == other.0) && (one.1 == other.1)

-- two places with one key; an empty key is like any other
abbrev pub same_key : List (List (ℕ × ℕ)) → ℕ → ℕ → Bool
same_key keys one other = pointwise same_pair (slice_index_or keys one []) (slice_index_or keys other [])

abbrev pub same_class : Option ℕ → Option ℕ → Bool
same_class None other = false
same_class (Some one) None = false
same_class (Some one) (Some other) = one == other

-- two items at one node of a scope: the session, a file, a class; items outside classes are at none
abbrev pub same_node : Scope → ItemKeys → ItemKeys → Bool
same_node Session one other = true
same_node Module one other = one.file == other.file
same_node Class one other = same_class one.class other.class
same_node Function one other = false

abbrev pub shares_node : Scope → Option ItemKeys → Option ItemKeys → Bool
shares_node scope None other = false
shares_node scope (Some one) None = false
shares_node scope (Some one) (Some other) = same_node scope one other

abbrev pub are_neighbours : Scope → List ItemKeys → ℕ → ℕ → Bool
are_neighbours scope items one other = shares_node scope (slice_get items one) (slice_get items other)

-- one pass over the places of items: within each stretch at one node of a scope, they are grouped by what they need of it
abbrev pub pass : Scope → List ItemKeys → List ℕ → List ℕ
pass scope items order = flat_map (grouped (same_key (keys_of scope items))) (stretches (are_neighbours scope items) order)

-- three passes, from broad to narrow
abbrev pub regrouped : List ItemKeys → List ℕ
regrouped items = pass Class items (pass Module items (pass Session items (range_with_len 0 (length items))))
