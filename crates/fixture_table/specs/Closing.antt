-- What an item needs, in order (pytest's fixture guide, "Autouse fixtures", "Fixtures can be requested more than once",
-- and its reference, "Fixture instantiation order").
use Rattle.std.specs.Prelude.{◌≡◌, ℕ, ◌<◌, ◌≤◌, Bool, false, List, [], ◌∷◌, ◌++◌, length, Option, None, Some, slice_index_or, if◌then◌else◌, ◌==◌, ◌&&◌, map, suc, slice_get}
use Rattle.std.specs.List.{filter, list_any}
use Rattle.fixture_table.specs.declared.types.CollectionNode.{CollectionNode}
use Rattle.fixture_table.specs.declared.types.FixtureDef.{FixtureDef}
use Rattle.fixture_table.specs.declared.entry.Entry.{Entry}
use Rattle.fixture_table.specs.declared.entry.Entry.TheVariants.{Definition, Missing}
use Rattle.fixture_table.specs.Tree.{iter_parents}
use Rattle.session_types.specs.Numbers.{among}
use Rattle.fixture_table.specs.Nearest.{nearest_of, def_at}

abbrev pub same_entry : Entry → Entry → Bool
same_entry (Definition d) (Definition e) = d == e
same_entry (Definition d) (Missing m) = false
same_entry (Missing n) (Definition e) = false
same_entry (Missing n) (Missing m) = n == m

-- the entry stands in the list
abbrev pub has : Entry → List Entry → Bool
has e es = list_any (λ x. same_entry x e) es

-- those that aren't there yet are appended, in order
abbrev pub with_one : Entry → List Entry → List Entry
with_one e es = if has e es then es else (es ++ e ∷ [])

abbrev pub with_unseen : List Entry → List Entry → List Entry
with_unseen [] es = es
with_unseen (e ∷ more) es = with_unseen more (with_one e es)

-- a name stands for its nearest definition, or for itself
abbrev pub entry_or : ℕ → Option ℕ → Entry
entry_or name None = Missing name
entry_or name (Some d) = Definition d

abbrev pub definition_if : Option ℕ → List Entry
definition_if None = []
definition_if (Some d) = Definition d ∷ []

-- the autouse definitions of a node, in order
abbrev pub autouse_at : List FixtureDef → ℕ → List ℕ
autouse_at defs node = map (λ one. one.name) (filter (λ one. one.autouse && (one.node == node)) defs)

-- outer nodes first
abbrev pub autouse_up : List FixtureDef → List ℕ → List ℕ
autouse_up defs [] = []
autouse_up defs (node ∷ up) = autouse_up defs up ++ autouse_at defs node

module _ (nodes : List CollectionNode) (defs : List FixtureDef) (item : ℕ) (bound : List ℕ) where
  -- a bound name is no entry
  abbrev pub entry_for : ℕ → List Entry
  entry_for name = if among name bound then [] else (entry_or name (nearest_of nodes defs name item None) ∷ [])

  abbrev pub entries_for : List ℕ → List Entry
  entries_for [] = []
  entries_for (name ∷ names) = entry_for name ++ entries_for names

  -- a definition that asks for its own name gets the next one further out, or none
  abbrev pub asked_one : ℕ → ℕ → List Entry
  asked_one d name =
      if name == (def_at defs d).name
      then (if among name bound then [] else definition_if (nearest_of nodes defs name item (Some d)))
      else entry_for name

  abbrev pub asked_all : ℕ → List ℕ → List Entry
  asked_all d [] = []
  asked_all d (name ∷ names) = asked_one d name ++ asked_all d names

  -- what an entry asks for
  abbrev pub requested_by : Entry → List Entry
  requested_by (Missing name) = []
  requested_by (Definition d) = asked_all d (def_at defs d).args

  -- the list grows: each entry in turn, from a place on, appends what it asks for and isn't there yet
  pub data Grown : List Entry → ℕ → List Entry → Type 0 where
    Done : (es : List Entry) (p : ℕ) → length es ≤ p → Grown es p es
    More : (es : List Entry) (p : ℕ) (e : Entry) (end : List Entry) → slice_get es p ≡ Some e → Grown (with_unseen (requested_by e) es) (suc p) end → Grown es p end

  -- the visible autouse fixtures, then what is used, then the arguments
  abbrev pub first_entries : List ℕ → List ℕ → List Entry
  first_entries uses args = with_unseen (entries_for (autouse_up defs (iter_parents nodes item) ++ (uses ++ args))) []

-- each definition of the list is one of the table
abbrev pub IsKnown : List FixtureDef → Entry → Type 0
IsKnown defs (Definition d) = d < length defs
IsKnown defs (Missing name) = Unit {0}

abbrev pub entry_at : List Entry → ℕ → Entry
entry_at es p = slice_index_or es p (Missing 0)

abbrev pub Known : List FixtureDef → List Entry → Type 0
Known defs es = (p : ℕ) → p < length es → IsKnown defs (entry_at es p)
