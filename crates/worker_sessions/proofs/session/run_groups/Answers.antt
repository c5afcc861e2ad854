use Rattle.std.proofs.Common.{subst, sym}
use Rattle.std.specs.Prelude.{IfOk}
use Rattle.run_items.specs.Stands.{IsPlan, IsPlannedItem, planned}
use Rattle.run_items.specs.declared.plan.Plan.{Plan}
use Rattle.run_items.specs.source_meaning.Meaning.{SourceWorld}
use Rattle.runtest_loop.specs.Course.{chosen_in}
use Rattle.runtest_loop.specs.Fed.{AreKnown, numbers_fed}
use Rattle.worker_sessions.proofs.Plans.{are_known, is_plan}
use Rattle.worker_sessions.specs.Sessions.{ReportsPlanned, plan_by}
use Rattle.worker_sessions.proofs.session.run_groups.Goals as goal

pub run_whole-requires-clause-plan : goal.run_whole-requires-clause-plan
run_whole-requires-clause-plan g c = subst (λ (p : Plan). IsPlan p) (sym c.plan_of.ensures) (is_plan c.args.options.now c.args.found c.requires.runnable)

pub run_whole-requires-clause-known : goal.run_whole-requires-clause-known
run_whole-requires-clause-known g c =
    subst (λ (p : Plan). AreKnown (IsPlannedItem p) p.run.suite.items) (sym c.plan_of.ensures) (are_known c.args.options.now c.args.found c.requires.runnable)

pub returns-in-Ok-clause-reports : goal.returns-in-Ok-clause-reports
returns-in-Ok-clause-reports g c =
    let given = g.F.Feed.given c.run_whole.new.feed in
    let o = c.args.options.now in
    let groups = c.args.groups.now in
    subst (λ (w : SourceWorld). IfOk c.run_whole.result (λ reports. ReportsPlanned (plan_by o c.args.found) o (chosen_in (planned (plan_by o c.args.found)) c.args.found.suite.items (numbers_fed groups given)) w reports.items)) c.in-Ok.ensures.world
    (subst (λ (p : Plan). IfOk c.run_whole.result (λ reports. ReportsPlanned p o (chosen_in (planned p) p.run.suite.items (numbers_fed groups given)) c.in-Ok.stand.world reports.items)) c.plan_of.ensures c.run_whole.ensures.reports)
