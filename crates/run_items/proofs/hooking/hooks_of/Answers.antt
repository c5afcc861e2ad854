use Rattle.std.proofs.Common.{◌∙◌, ap, List}
use Rattle.fixture_world.specs.runtest_rules.Rules.{hooks_for}
use Rattle.hook_order.specs.declared.implementation.Impl.{Impl}
use Rattle.hook_phases.specs.Phases.{phase_of}
use Rattle.run_items.proofs.Doings.{hooks_ordered, hooks_same}
use Rattle.run_items.proofs.hooking.hooks_of.Goals as goal

pub returns-clause-hooks : goal.returns-clause-hooks
returns-clause-hooks c =
    let plan = c.args.plan.now in
    hooks_same plan c.args.item.now c.requires.item (phase_of c.args.phase) c.in_ok-hooks.hooks (c.in_ok-hooks.ensures ∙ ap (λ (l : List Impl). hooks_for plan.run.suite.hooks c.args.item.now l) c.impls_of.ensures)

pub returns-clause-order : goal.returns-clause-order
returns-clause-order c =
    let plan = c.args.plan.now in
    hooks_ordered plan c.args.item.now c.requires.item c.requires.plan (phase_of c.args.phase) c.in_ok-hooks.hooks (c.in_ok-hooks.ensures ∙ ap (λ (l : List Impl). hooks_for plan.run.suite.hooks c.args.item.now l) c.impls_of.ensures)
