use Rattle.std.proofs.Common.{subst, sym}
use Rattle.run_items.specs.Stands.{IsPlan, IsPlannedItem}
use Rattle.run_items.specs.declared.plan.Plan.{Plan}
use Rattle.runtest_loop.specs.Fed.{AreKnown}
use Rattle.journal_tests.proofs.Plans.{are_known, is_plan}
use Rattle.journal_tests.proofs.session.told_of_group.Goals as goal

pub told_whole-requires-clause-plan : goal.told_whole-requires-clause-plan
told_whole-requires-clause-plan c = subst (λ (p : Plan). IsPlan p) (sym c.plan_of.ensures) (is_plan c.args.options.now c.args.found c.requires.runnable)

pub told_whole-requires-clause-known : goal.told_whole-requires-clause-known
told_whole-requires-clause-known c =
    subst (λ (p : Plan). AreKnown (IsPlannedItem p) p.run.suite.items) (sym c.plan_of.ensures) (are_known c.args.options.now c.args.found c.requires.runnable)
