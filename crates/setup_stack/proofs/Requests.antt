-- What definitions ask for is in the table.
use Rattle.std.proofs.Common.{◌≡◌, ◌==◌, ℕ, ◌+◌, ◌<◌, Bool, true, false, cond, List, [], ◌∷◌, ◌⊎◌, inl, inr, sym, ap, arith, subst, length, nat_lt, Option, Some, None}
use Rattle.std.specs.Option.{option_to_list}
use Rattle.session_types.specs.Members.{IsMember}
use Rattle.session_types.specs.Numbers.{among}
use Rattle.session_types.proofs.Lists.{In-append}
use Rattle.fixture_table.specs.declared.types.CollectionNode.{CollectionNode}
use Rattle.fixture_table.specs.declared.types.FixtureDef.{FixtureDef}
use Rattle.fixture_table.specs.Tree.{node_depth}
use Rattle.fixture_table.specs.Nearest.{overriding_def, def_at, may_answer, nearest_from, nearest_of}
use Rattle.fixture_table.specs.Tables.{TableValue}
use Rattle.fixture_instances.specs.declared.items.ItemRef.{ItemRef}
use Rattle.fixture_instances.specs.Items.{bound_names, item_for_session, requested, requested_all}
use Rattle.setup_stack.proofs.Turns.{AsksKnown}
use Rattle.fixture_instances.proofs.Requests.{requests_same}

-- a nearest definition is one of the table
deeper_is : (nodes : List CollectionNode) (defs : List FixtureDef) (d e : ℕ) (o : Option ℕ) → overriding_def nodes defs d o ≡ Some e → (e ≡ d) ⊎ (o ≡ Some e)
deeper_is nodes defs d e None h = (let z : Some d ≡ Some e = h in inl (let q : d ≡ e = cc in sym q))
deeper_is nodes defs d e (Some later) h =
    elim (nat_lt (node_depth nodes (def_at defs later).node) (node_depth nodes (def_at defs d).node)) as (λ b. cond b (Some d) (Some later) ≡ Some e → (e ≡ d) ⊎ (Some later ≡ Some e)) [
      | true ↦ λ z. inl (let q : d ≡ e = cc in sym q)
      | false ↦ λ z. inr z
    ] h

nearest_within : (nodes : List CollectionNode) (defs : List FixtureDef) (name item : ℕ) (beyond : Option ℕ) (place : ℕ) (ds : List FixtureDef) (e : ℕ) → nearest_from nodes defs name item beyond place ds ≡ Some e → e < place + length ds
nearest_within nodes defs name item beyond place [] e h = (let z : None ≡ Some e = h in cc)
nearest_within nodes defs name item beyond place (one ∷ rest) e h =
    elim (may_answer nodes defs name item beyond place one) as (λ b. cond b (overriding_def nodes defs place (nearest_from nodes defs name item beyond (place + 1) rest)) (nearest_from nodes defs name item beyond (place + 1) rest) ≡ Some e → e < place + length (one ∷ rest)) [
      | true ↦ λ q. elim (deeper_is nodes defs place e (nearest_from nodes defs name item beyond (place + 1) rest) q) [
        | inl z ↦ omega (arith, z)
        | inr z ↦ (let l = nearest_within nodes defs name item beyond (place + 1) rest e z in omega (arith, l))
      ]
      | false ↦ λ q. (let l = nearest_within nodes defs name item beyond (place + 1) rest e q in omega (arith, l))
    ] h

nearest_low : (nodes : List CollectionNode) (defs : List FixtureDef) (name item : ℕ) (beyond : Option ℕ) (e : ℕ) → nearest_of nodes defs name item beyond ≡ Some e → e < length defs
nearest_low nodes defs name item beyond e h = (let l = nearest_within nodes defs name item beyond 0 defs e h in omega (arith, l))

none_some : (bound own : Bool) (a b : Option ℕ) (e : ℕ) → cond bound None (cond own a b) ≡ Some e → (a ≡ Some e) ⊎ (b ≡ Some e)
none_some true own a b e h = (let z : None ≡ Some e = h in cc)
none_some false true a b e h = inl h
none_some false false a b e h = inr h

one_low : (nodes : List CollectionNode) (defs : List FixtureDef) (item : ℕ) (bound : List ℕ) (d name e : ℕ) → requested nodes defs item bound d name ≡ Some e → e < length defs
one_low nodes defs item bound d name e h =
    elim (none_some (among name bound) (name == (def_at defs d).name) (nearest_of nodes defs name item (Some d)) (nearest_of nodes defs name item None) e h) [
      | inl z ↦ nearest_low nodes defs name item (Some d) e z
      | inr z ↦ nearest_low nodes defs name item None e z
    ]

listed : (o : Option ℕ) (e : ℕ) → IsMember e (option_to_list o) → o ≡ Some e
listed None e h = absurd h
listed (Some d) e (inl q) = ap (λ (x : ℕ). Some x) (sym q)
listed (Some d) e (inr h) = absurd h

all_low : (nodes : List CollectionNode) (defs : List FixtureDef) (item : ℕ) (bound : List ℕ) (d : ℕ) (names : List ℕ) (e : ℕ) → IsMember e (requested_all nodes defs item bound d names) → e < length defs
all_low nodes defs item bound d [] e h = absurd h
all_low nodes defs item bound d (name ∷ names) e h =
    elim (In-append e (option_to_list (requested nodes defs item bound d name)) (requested_all nodes defs item bound d names) h) [
      | inl l ↦ one_low nodes defs item bound d name e (listed (requested nodes defs item bound d name) e l)
      | inr r ↦ all_low nodes defs item bound d names e r
    ]

pub requests_low : {V : Type 0} (table : TableValue) (item : ItemRef V) → AsksKnown (item_for_session table item) (length table.defs)
requests_low table item d e h =
    all_low table.nodes table.defs item.node (bound_names item.bound) d (def_at table.defs d).args e (subst (λ (l : List ℕ). IsMember e l) (requests_same table item d) h)
