use Rattle.std.proofs.Common.{ℕ, List, inl, inr, refl, sym, ◌∙◌, subst}
use Rattle.session_types.specs.Members.{IsMember}
use Rattle.demand_tests.proofs.Rows.{ready_there}
use Rattle.demand_tests.proofs.benches.demand_each.Goals as goal

pub defs-init : goal.defs-init
defs-init c = record { frames = c.requires.frames; script = refl; table = refl; ready = c.requires.ready }

pub demand-requires-clause-ready : goal.demand-requires-clause-ready
demand-requires-clause-ready c =
    ready_there c.defs.bench.script c.args.bench.now.script c.defs.bench.table c.args.bench.now.table c.args.item.now c.in-Some.def.now c.defs.invariant.script c.defs.invariant.table
    (c.defs.invariant.ready c.in-Some.def.now (subst (λ (l : List ℕ). IsMember c.in-Some.def.now l) (sym c.in-Some.ensures.cases.0) (inl refl)))

pub defs-preserved : goal.defs-preserved
defs-preserved c = record {
  frames = c.in_ok-raised.ensures.frames;
  script = c.demand.ensures.script ∙ c.defs.invariant.script;
  table = c.demand.ensures.table ∙ c.defs.invariant.table;
  ready = λ d m. c.defs.invariant.ready d (subst (λ (l : List ℕ). IsMember d l) (sym c.in-Some.ensures.cases.0) (inr m));
}
