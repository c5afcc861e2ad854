-- What a closure has is of the table, and it is settled.
use Rattle.std.proofs.Common.{◌≡◌, ◌⊎◌, inl, inr, ℕ, zero, suc, ◌<◌, Bool, true, false, cond, List, [], ◌∷◌, ◌++◌, length, Option, None, Some, nat_eq, refl, sym, subst}
use Rattle.fixture_table.proofs.Nearest.{nearest_within}
use Rattle.fixture_table.specs.Closing.{Grown, Done, More, requested_by, asked_all, asked_one, autouse_up, definition_if, entries_for, entry_for, entry_or, first_entries, has, with_one, with_unseen}
use Rattle.fixture_table.specs.Faults.{IsClosure, by_ranks, by_scope, definitions_of, of_rank}
use Rattle.fixture_table.specs.Nearest.{def_at, nearest_of}
use Rattle.fixture_table.specs.Tree.{iter_parents}
use Rattle.fixture_table.specs.declared.entry.Entry.{Entry}
use Rattle.fixture_table.specs.declared.entry.Entry.TheVariants.{Definition, Missing}
use Rattle.fixture_table.specs.declared.types.CollectionNode.{CollectionNode}
use Rattle.fixture_table.specs.declared.types.FixtureDef.{FixtureDef}
use Rattle.session_types.proofs.Lists.{In-append, In-filter}
use Rattle.session_types.specs.Members.{IsMember}
use Rattle.session_types.specs.Numbers.{among}
use Rattle.session_types.specs.Scopes.{rank, scope_count}

-- an entry that is of the table
abbrev Low : List FixtureDef → Entry → Type 0
Low defs (Definition d) = d < length defs
Low defs (Missing name) = Unit {0}

abbrev AllLow : List FixtureDef → List Entry → Type 0
AllLow defs [] = Unit {0}
AllLow defs (e ∷ es) = Low defs e × AllLow defs es

low_append : (defs : List FixtureDef) (xs ys : List Entry) → AllLow defs xs → AllLow defs ys → AllLow defs (xs ++ ys)
low_append defs [] ys l m = m
low_append defs (x ∷ xs) ys l m = (l.0, low_append defs xs ys l.1 m)

low_cond : (defs : List FixtureDef) (b : Bool) (xs ys : List Entry) → AllLow defs xs → AllLow defs ys → AllLow defs (cond b xs ys)
low_cond defs true xs ys l m = l
low_cond defs false xs ys l m = m

low_unseen : (defs : List FixtureDef) (new es : List Entry) → AllLow defs new → AllLow defs es → AllLow defs (with_unseen new es)
low_unseen defs [] es l m = m
low_unseen defs (e ∷ new) es l m = low_unseen defs new (with_one e es) l.1 (low_cond defs (has e es) es (es ++ e ∷ []) m (low_append defs es (e ∷ []) m (l.0, tt)))

low_defs : (defs : List FixtureDef) (es : List Entry) (d : ℕ) → AllLow defs es → IsMember d (definitions_of es) → d < length defs
low_defs defs [] d l i = absurd i
low_defs defs (Definition e ∷ es) d l (inl same) = subst (λ (k : ℕ). k < length defs) (sym same) l.0
low_defs defs (Definition e ∷ es) d l (inr i) = low_defs defs es d l.1 i
low_defs defs (Missing name ∷ es) d l i = low_defs defs es d l.1 i

-- what is sorted by scope was there
in_ranks : (defs : List FixtureDef) (n : ℕ) (ds : List ℕ) (d : ℕ) → IsMember d (by_ranks defs n ds) → IsMember d ds
in_ranks defs zero ds d i = absurd i
in_ranks defs (suc n) ds d i = elim (In-append d (by_ranks defs n ds) (of_rank defs n ds) i) [
  | inl l ↦ in_ranks defs n ds d l
  | inr r ↦ (In-filter (λ (e : ℕ). nat_eq (rank (def_at defs e).scope) n) d ds r).0
]

module _ (nodes : List CollectionNode) (defs : List FixtureDef) (item : ℕ) (bound : List ℕ) where
  low_or : (name : ℕ) (r : Option ℕ) → nearest_of nodes defs name item None ≡ r → AllLow defs (entry_or name r ∷ [])
  low_or name None e = (tt, tt)
  low_or name (Some d) e = (nearest_within nodes defs name item None d e, tt)

  low_if : (name : ℕ) (beyond r : Option ℕ) → nearest_of nodes defs name item beyond ≡ r → AllLow defs (definition_if r)
  low_if name beyond None e = tt
  low_if name beyond (Some d) e = (nearest_within nodes defs name item beyond d e, tt)

  low_for : (name : ℕ) → AllLow defs (entry_for nodes defs item bound name)
  low_for name = low_cond defs (among name bound) [] (entry_or name (nearest_of nodes defs name item None) ∷ []) tt (low_or name (nearest_of nodes defs name item None) refl)

  low_entries : (names : List ℕ) → AllLow defs (entries_for nodes defs item bound names)
  low_entries [] = tt
  low_entries (name ∷ names) = low_append defs (entry_for nodes defs item bound name) (entries_for nodes defs item bound names) (low_for name) (low_entries names)

  low_one : (d name : ℕ) → AllLow defs (asked_one nodes defs item bound d name)
  low_one d name =
      low_cond defs (nat_eq name (def_at defs d).name) (cond (among name bound) [] (definition_if (nearest_of nodes defs name item (Some d)))) (entry_for nodes defs item bound name)
      (low_cond defs (among name bound) [] (definition_if (nearest_of nodes defs name item (Some d))) tt (low_if name (Some d) (nearest_of nodes defs name item (Some d)) refl))
      (low_for name)

  low_all : (d : ℕ) (names : List ℕ) → AllLow defs (asked_all nodes defs item bound d names)
  low_all d [] = tt
  low_all d (name ∷ names) = low_append defs (asked_one nodes defs item bound d name) (asked_all nodes defs item bound d names) (low_one d name) (low_all d names)

  low_asked : (e : Entry) → AllLow defs (requested_by nodes defs item bound e)
  low_asked (Definition d) = low_all d (def_at defs d).args
  low_asked (Missing name) = tt

  low_grown : (es : List Entry) (p : ℕ) (end : List Entry) → Grown nodes defs item bound es p end → AllLow defs es → AllLow defs end
  low_grown _ _ _ (Done es p past) l = l
  low_grown _ _ _ (More es p e end at g) l = low_grown (with_unseen (requested_by nodes defs item bound e) es) (suc p) end g (low_unseen defs (requested_by nodes defs item bound e) es (low_asked e) l)

  -- the definitions of a closure are of the table
  pub closure_low : (uses args closure : List ℕ) → IsClosure nodes defs item bound uses args closure → (d : ℕ) → IsMember d closure → d < length defs
  closure_low uses args closure c d i =
      low_defs defs c.entries d
      (low_grown (first_entries nodes defs item bound uses args) 0 c.entries c.grown (low_unseen defs (entries_for nodes defs item bound (autouse_up defs (iter_parents nodes item) ++ (uses ++ args))) [] (low_entries (autouse_up defs (iter_parents nodes item) ++ (uses ++ args))) tt))
      (in_ranks defs scope_count (definitions_of c.entries) d (subst (λ (ds : List ℕ). IsMember d ds) c.sorted i))
