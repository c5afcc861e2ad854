use Rattle.std.proofs.Common.{◌≡◌, ℕ, ◌∙◌, ap, sym, List, Option, Some}
use Rattle.fixture_world.specs.Items.{closure_of, item_in_session}
use Rattle.run_items.specs.Stands.{plan_rules, stand_state}
use Rattle.session_rules.specs.Session.{set_up_by}
use Rattle.test_suite.specs.declared.item.ItemClosure.{ItemClosure}
use Rattle.run_items.proofs.setting_up.demand_or_fault.Goals as goal

pub demand-requires-clause-closure : goal.demand-requires-clause-closure
demand-requires-clause-closure c = ap (λ (x : ItemClosure). closure_of x) c.in-Whole.is ∙ ap (λ (l : List ℕ). Some l) (sym c.items.ensures)

pub fault-requires-clause-closure : goal.fault-requires-clause-closure
fault-requires-clause-closure c = ap (λ (x : ItemClosure). closure_of x) c.in-Fault.is

pub returns-in_ok-raised-in-Whole : goal.returns-in_ok-raised-in-Whole
returns-in_ok-raised-in-Whole c =
    let plan = c.args.plan.now in
    let item = c.args.item.now in
    let whole : closure_of item.closure ≡ Some c.items.result.now = ap (λ (x : ItemClosure). closure_of x) c.in-Whole.is ∙ ap (λ (l : List ℕ). Some l) (sym c.items.ensures) in
    c.in_ok-raised-in-Whole.ensures
    ∙ ap (λ (o : Option (List ℕ)). set_up_by (plan_rules plan) (item_in_session plan.table item) o (stand_state c.args.stand.now)) (sym whole)

pub returns-in_ok-raised-in-Fault : goal.returns-in_ok-raised-in-Fault
returns-in_ok-raised-in-Fault c = c.in_ok-raised-in-Fault.ensures
