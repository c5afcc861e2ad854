use Rattle.std.proofs.Common.{◌++◌, List, ap, ◌∙◌}
use Rattle.report_parts.specs.declared.report.ItemReport.{ItemReport}
use Rattle.run_items.specs.Stands.{planned}
use Rattle.runtest_loop.specs.Course.{chosen_in}
use Rattle.runtest_loop.specs.Fed.{numbers_fed}
use Rattle.worker_sessions.proofs.Planned.{are_planned}
use Rattle.worker_sessions.proofs.session.run_in.Goals as goal

pub returns-in-Ok-clause-ended : goal.returns-in-Ok-clause-ended
returns-in-Ok-clause-ended g c = c.in-Ok.ensures.done (c.in-Ok.ensures.whole c.requires.whole)

pub returns-in-Ok-clause-reports : goal.returns-in-Ok-clause-reports
returns-in-Ok-clause-reports g c =
    let ran = c.in-Ok.ensures.run in
    are_planned c.args.plan.now c.args.options.now (chosen_in (planned c.args.plan.now) c.args.plan.now.run.suite.items (numbers_fed c.args.groups.now (g.F.Feed.given c.run-end.new.feed)))
    c.args.stand.now.world ran.0 c.run-end.new.to.reports.items c.in-Ok._end c.run-end.new.stand c.requires.whole (ran.1 ∙ ap (λ (xs : List ItemReport). xs ++ ran.0) c.new.ensures.items) ran.2
