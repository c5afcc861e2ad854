-- A table and a script side by side.
use Rattle.std.proofs.Common.{◌≡◌, ℕ, ◌<◌, zero, suc, List, [], ◌∷◌, ◌++◌, sym, ap, ◌∙◌, arith, length, map, subst, lit<}
use Rattle.std.proofs.lemmas.List.{length-map, map-append}
use Rattle.session_types.specs.Members.{IsMember}
use Rattle.session_types.specs.declared.scope.Scope.{Scope}
use Rattle.fixture_table.specs.declared.types.CollectionNode.{CollectionNode}
use Rattle.fixture_table.specs.declared.types.FixtureDef.{FixtureDef}
use Rattle.fixture_table.specs.Faults.{CanBeSetUp}
use Rattle.fixture_table.specs.Nearest.{def_at}
use Rattle.fixture_table.specs.Tables.{TableValue}
use Rattle.fixture_table.specs.Tree.{IsTree, parent_of}
use Rattle.fixture_instances.specs.Items.{bound_names, item_for_session}
use Rattle.fixture_instances.specs.declared.items.BoundValue.{BoundValue}
use Rattle.fixture_instances.specs.declared.items.ItemRef.{ItemRef}
use Rattle.setup_stack.specs.Asking.{AreReady, IsReady}
use Rattle.setup_stack.specs.Scopes.{HasScopes}
use Rattle.setup_stack.proofs.Ready.{closure_ready}
use Rattle.demand_tests.specs.declared.logs.Part.{Part}
use Rattle.demand_tests.specs.declared.logs.Script.{Script}
use Rattle.demand_tests.specs.Logs.{InStep, IsBench, logging, part_at, spoken, two_items}

pub same_length : (parts : List Part) (defs : List FixtureDef) → InStep parts defs → length parts ≡ length defs
same_length parts defs e = sym (length-map parts (λ (p : Part). p.scope)) ∙ (ap length e ∙ length-map defs (λ (d : FixtureDef). d.scope))

same_scope : (parts : List Part) (defs : List FixtureDef) (d : ℕ) → InStep parts defs → d < length defs → (part_at parts d).scope ≡ (def_at defs d).scope
same_scope parts [] d e lt = absurd (omega (arith, lt))
same_scope [] (x ∷ xs) d e lt = (let z : [] ≡ x.scope ∷ map (λ (d : FixtureDef). d.scope) xs = e in cc)
same_scope (p ∷ ps) (x ∷ xs) zero e lt = (let z : p.scope ∷ map (λ (d : Part). d.scope) ps ≡ x.scope ∷ map (λ (d : FixtureDef). d.scope) xs = e in cc)
same_scope (p ∷ ps) (x ∷ xs) (suc d) e lt = (let z : map (λ (d : Part). d.scope) ps ≡ map (λ (d : FixtureDef). d.scope) xs = cc in same_scope ps xs d z (omega (arith, lt)))

pub bench_scopes : (script : Script) (table : TableValue) → IsBench script table → HasScopes (logging script) table
bench_scopes script table b = λ d lt. same_scope script.parts table.defs d b.step lt

behind : (at : ℕ) → 0 < at → at < 4 → parent_of two_items at < at
behind zero h l = absurd (omega (arith, h))
behind (suc zero) h l = lit< tt
behind (suc (suc zero)) h l = lit< tt
behind (suc (suc (suc zero))) h l = lit< tt
behind (suc (suc (suc (suc n)))) h l = absurd (omega (arith, l))

pub is_tree : IsTree two_items
is_tree = record { rooted = lit< tt; behind = behind }

pub bench_tree : (script : Script) (table : TableValue) → IsBench script table → IsTree table.nodes
bench_tree script table b = subst (λ (nodes : List CollectionNode). IsTree nodes) (sym b.nodes) is_tree

pub bench_node : (script : Script) (table : TableValue) (at : ℕ) → IsBench script table → at < 4 → at < length table.nodes
bench_node script table at b l = subst (λ (nodes : List CollectionNode). at < length nodes) (sym b.nodes) l

-- one more of each
pub step_more : (parts : List Part) (defs : List FixtureDef) (p : Part) (d : FixtureDef) → p.scope ≡ d.scope → InStep parts defs → InStep (parts ++ p ∷ []) (defs ++ d ∷ [])
step_more parts defs p d same e =
    map-append (λ (q : Part). q.scope) parts (p ∷ [])
    ∙ (ap (λ (l : List Scope). l ++ p.scope ∷ []) e
    ∙ (ap (λ (s : Scope). map (λ (q : FixtureDef). q.scope) defs ++ s ∷ []) same
    ∙ sym (map-append (λ (q : FixtureDef). q.scope) defs (d ∷ []))))

-- what the closure of an item that binds nothing has is ready
pub bench_ready : (script : Script) (table : TableValue) (item : ItemRef ℕ) (ids : List ℕ) → IsBench script table → item.bound ≡ [] → ((d : ℕ) → IsMember d ids → d < length table.defs) → CanBeSetUp table.nodes table.defs item.node [] ids → AreReady (logging script) (item_for_session table item) (length table.defs) (length script.parts) ids
bench_ready script table item ids b none within s =
    λ d m.
    closure_ready {L = spoken} (logging script) table item ids (bench_scopes script table b) (same_length script.parts table.defs b.step) within
    (subst (λ (bound : List (BoundValue ℕ)). CanBeSetUp table.nodes table.defs item.node (bound_names bound) ids) (sym none) s) d m

-- a definition is as ready with the same script and the same table
pub ready_there : (script other : Script) (table another : TableValue) (item : ItemRef ℕ) (d : ℕ) → script ≡ other → table ≡ another → IsReady (logging other) (item_for_session another item) (length another.defs) (length other.parts) d → IsReady (logging script) (item_for_session table item) (length table.defs) (length script.parts) d
ready_there script other table another item d e f r =
    subst (λ (s : Script). IsReady (logging s) (item_for_session table item) (length table.defs) (length s.parts) d) (sym e)
    (subst (λ (t : TableValue). IsReady (logging other) (item_for_session t item) (length t.defs) (length other.parts) d) (sym f) r)

pub bench_there : (script other : Script) (table another : TableValue) → script ≡ other → table ≡ another → IsBench other another → IsBench script table
bench_there script other table another e f b =
    subst (λ (s : Script). IsBench s table) (sym e) (subst (λ (t : TableValue). IsBench other t) (sym f) b)
