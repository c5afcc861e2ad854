use Rattle.std.proofs.Common.{subst, sym}
use Rattle.worker_sessions.specs.run_items.Stands.{IsPlan, IsPlannedItem}
use Rattle.worker_sessions.specs.run_items.declared.plan.Plan.{Plan}
use Rattle.runtest_loop.specs.Fed.{AreKnown}
use Rattle.worker_sessions.proofs.Plans.{are_known, is_plan}
use Rattle.worker_sessions.specs.Sessions.{plan_by}
use Rattle.pytest_core.proofs.Streamed.{none_broke}
use Rattle.pytest_core.proofs.session.run_group.Goals as goal

pub run_whole-requires-clause-plan : goal.run_whole-requires-clause-plan
run_whole-requires-clause-plan g c = subst (λ (p : Plan). IsPlan p) (sym c.plan_of.ensures) (is_plan c.args.options.now c.args.found c.requires.runnable)

pub run_whole-requires-clause-known : goal.run_whole-requires-clause-known
run_whole-requires-clause-known g c =
    subst (λ (p : Plan). AreKnown (IsPlannedItem p) p.run.suite.items) (sym c.plan_of.ensures) (are_known c.args.options.now c.args.found c.requires.runnable)

pub returns-in-Err-clause-broke : goal.returns-in-Err-clause-broke
returns-in-Err-clause-broke g c = none_broke (plan_by c.args.options.now c.args.found) c.args.options.now c.args.groups.now c.args.world (g.S.Sink.told c.args.out.now)
