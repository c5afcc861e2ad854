-- What definitions ask for.
use Rattle.std.proofs.Common.{◌≡◌, ◌==◌, ℕ, Bool, true, false, cond, List, [], ◌∷◌, ◌++◌, refl, ap, ◌∙◌, Option, Some, None}
use Rattle.std.specs.Option.{option_to_list}
use Rattle.session_types.specs.Numbers.{among}
use Rattle.fixture_table.specs.declared.types.CollectionNode.{CollectionNode}
use Rattle.fixture_table.specs.declared.types.FixtureDef.{FixtureDef}
use Rattle.fixture_table.specs.declared.entry.Entry.{Entry}
use Rattle.fixture_table.specs.declared.entry.Entry.TheVariants.{Definition, Missing}
use Rattle.fixture_table.specs.Nearest.{def_at, nearest_of}
use Rattle.fixture_table.specs.Closing.{asked_all, asked_one, definition_if, entry_or}
use Rattle.fixture_table.specs.Faults.{definitions_of}
use Rattle.fixture_table.specs.Tables.{TableValue}
use Rattle.fixture_instances.specs.declared.items.ItemRef.{ItemRef}
use Rattle.fixture_instances.specs.Items.{bound_names, requested, requested_all, requests_in}

definitions_append : (xs ys : List Entry) → definitions_of (xs ++ ys) ≡ definitions_of xs ++ definitions_of ys
definitions_append [] ys = refl
definitions_append (Definition d ∷ xs) ys = ap (λ (l : List ℕ). d ∷ l) (definitions_append xs ys)
definitions_append (Missing n ∷ xs) ys = definitions_append xs ys

definitions_if : (o : Option ℕ) → definitions_of (definition_if o) ≡ option_to_list o
definitions_if None = refl
definitions_if (Some d) = refl

definitions_or : (name : ℕ) (o : Option ℕ) → definitions_of (entry_or name o ∷ []) ≡ option_to_list o
definitions_or name None = refl
definitions_or name (Some d) = refl

-- the four ways of an argument
chosen : (own bound : Bool) (name : ℕ) (a b : Option ℕ) → definitions_of (cond own (cond bound [] (definition_if a)) (cond bound [] (entry_or name b ∷ []))) ≡ option_to_list (cond bound None (cond own a b))
chosen true true name a b = refl
chosen true false name a b = definitions_if a
chosen false true name a b = refl
chosen false false name a b = definitions_or name b

one_same : (nodes : List CollectionNode) (defs : List FixtureDef) (item : ℕ) (bound : List ℕ) (d name : ℕ) → definitions_of (asked_one nodes defs item bound d name) ≡ option_to_list (requested nodes defs item bound d name)
one_same nodes defs item bound d name = chosen (name == (def_at defs d).name) (among name bound) name (nearest_of nodes defs name item (Some d)) (nearest_of nodes defs name item None)

pub all_same : (nodes : List CollectionNode) (defs : List FixtureDef) (item : ℕ) (bound : List ℕ) (d : ℕ) (names : List ℕ) → definitions_of (asked_all nodes defs item bound d names) ≡ requested_all nodes defs item bound d names
all_same nodes defs item bound d [] = refl
all_same nodes defs item bound d (name ∷ names) =
    definitions_append (asked_one nodes defs item bound d name) (asked_all nodes defs item bound d names)
    ∙ (ap (λ (l : List ℕ). l ++ definitions_of (asked_all nodes defs item bound d names)) (one_same nodes defs item bound d name)
    ∙ ap (λ (l : List ℕ). option_to_list (requested nodes defs item bound d name) ++ l) (all_same nodes defs item bound d names))

pub requests_same : {V : Type 0} (table : TableValue) (item : ItemRef V) (d : ℕ) → requests_in table item d ≡ requested_all table.nodes table.defs item.node (bound_names item.bound) d (def_at table.defs d).args
unfolding requests_in
requests_same table item d = all_same table.nodes table.defs item.node (bound_names item.bound) d (def_at table.defs d).args
