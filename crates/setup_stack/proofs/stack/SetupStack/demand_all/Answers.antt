use Rattle.std.proofs.Common.{ℕ, List, Option, inl, inr, refl, sym, ap, ◌∙◌, subst}
use Rattle.fixture_instances.specs.Items.{item_for_session}
use Rattle.fixture_instances.specs.Views.{live_instances}
use Rattle.session_rules.specs.Session.{demand_closure}
use Rattle.session_types.specs.Members.{IsMember}
use Rattle.setup_stack.specs.Asking.{goes_or_ends}
use Rattle.setup_stack.specs.Views.{stack_state}
use Rattle.setup_stack.proofs.Stands.{none_stand}
use Rattle.setup_stack.proofs.stack.SetupStack.demand_all.Goals as goal

pub defs-init : goal.defs-init
defs-init g c = record {
  same = refl;
  ready = c.requires.ready;
  stand = none_stand (g.W.Executor.rules c.args.setting.now) (item_for_session c.args.table.now c.args.item.now) (live_instances (g.W.Executor.rules c.args.setting.now) c.args.self.now.live.live) c.new-marks.result.items c.new-marks.ensures.items;
  frames = c.requires.frames;
}

pub demand_noted-requires-clause-ready : goal.demand_noted-requires-clause-ready
demand_noted-requires-clause-ready g c =
    c.defs.invariant.ready c.in-Some.def.now (subst (λ (l : List ℕ). IsMember c.in-Some.def.now l) (sym c.in-Some.ensures.cases.0) (inl refl))

pub returns-in-Some-refused-clause-state : goal.returns-in-Some-refused-clause-state
returns-in-Some-refused-clause-state g c =
    let rules = g.W.Executor.rules c.args.setting.now in
    let item = item_for_session c.args.table.now c.args.item.now in
    let before = stack_state rules c.defs.world c.defs.self in
    let behind = stack_state rules c.demand_noted.new.world c.demand_noted.new.stack in
    ap (λ (o : Option (List g.row.E.Denot)). goes_or_ends (demand_closure rules item c.in-Some.others.now) o behind) (sym c.in-Some-refused.is)
    ∙ (sym (c.in_ok-refused.ensures.noted c.in-Some.others.now)
    ∙ (ap (λ (l : List ℕ). demand_closure rules item l before) (sym c.in-Some.ensures.cases.0) ∙ c.defs.invariant.same))

pub defs-preserved : goal.defs-preserved
defs-preserved g c =
    let rules = g.W.Executor.rules c.args.setting.now in
    let item = item_for_session c.args.table.now c.args.item.now in
    let before = stack_state rules c.defs.world c.defs.self in
    let behind = stack_state rules c.demand_noted.new.world c.demand_noted.new.stack in
    record {
      same = ap (λ (o : Option (List g.row.E.Denot)). goes_or_ends (demand_closure rules item c.in-Some.others.now) o behind) (sym c.in_default-refused.is)
          ∙ (sym (c.in_ok-refused.ensures.noted c.in-Some.others.now)
          ∙ (ap (λ (l : List ℕ). demand_closure rules item l before) (sym c.in-Some.ensures.cases.0) ∙ c.defs.invariant.same));
      ready = λ d m. c.defs.invariant.ready d (subst (λ (l : List ℕ). IsMember d l) (sym c.in-Some.ensures.cases.0) (inr m));
      stand = c.in_ok-refused.ensures.stand;
      frames = c.in_ok-refused.ensures.frames;
    }
