-- The closure of an item of a plan is ready to be demanded.
use Rattle.std.proofs.Common.{◌≡◌, ℕ, ◌<◌, List, length, refl, sym, subst, Option, Some}
use Rattle.item_stack.specs.fixture_instances.Items.{def_scope_node, item_for_session, requests_in}
use Rattle.item_stack.specs.fixture_instances.declared.items.ItemRef.{ItemRef}
use Rattle.fixture_world.specs.Items.{closure_of, demanding, item_in_session}
use Rattle.py_values.specs.declared.value.Value.{Value}
use Rattle.run_items.specs.Stands.{IsPlan, IsPlannedItem, plan_rules}
use Rattle.run_items.specs.declared.plan.Plan.{Plan}
use Rattle.session_rules.proofs.Closure.{closure_settled}
use Rattle.session_rules.specs.Fits.{FitsClosure, IsValidClosure}
use Rattle.item_stack.specs.setup_stack.Asking.{AreReady}
use Rattle.item_stack.specs.setup_stack.Passing.{AreAsked}
use Rattle.test_suite.specs.declared.item.Item.{Item}

-- an item of a plan as its set-up sees it, with an instance of its class
abbrev pub demanding_with : Option Value → Item → ItemRef Value
demanding_with own item = record (demanding item) { own = own }

pub plan_ready : (plan : Plan) (item : Item) (own : Option Value) → IsPlan plan → IsPlannedItem plan item → (ds : List ℕ) → closure_of item.closure ≡ Some ds
    → AreReady (plan_rules plan) (item_for_session plan.table (demanding_with own item)) (length plan.table.defs) (plan_rules plan).depth ds
unfolding def_scope_node requests_in
plan_ready plan item own p k ds e =
    λ d m.
    let rules = plan_rules plan in
    let asked = item_for_session plan.table (demanding_with own item) in
    let c : IsValidClosure rules (item_in_session plan.table item) ds = subst (λ (o : Option (List ℕ)). FitsClosure rules (item_in_session plan.table item) o) e k.fits in
    let same : IsValidClosure rules asked ds = record { known = c.known; whole = c.whole; scopes = c.scopes; acyclic = c.acyclic } in (
      subst (λ (n : ℕ). d < n) (sym p.many) (c.known d m),
      closure_settled rules asked ds same d m,
    )

-- a demand does not look at the instance of the class
pub plan_asked : (plan : Plan) (item : Item) (own : Option Value) → AreAsked (item_in_session plan.table item) (item_for_session plan.table (demanding_with own item))
unfolding def_scope_node requests_in
plan_asked plan item own = record { node = refl; requests = λ d. refl; parameter = λ d. refl; place = λ d. refl }
