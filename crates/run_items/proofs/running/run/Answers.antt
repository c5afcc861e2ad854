use Rattle.std.proofs.Common.{ap, subst, sym, List, length}
use Rattle.run_items.proofs.Given.{all_spent, lent_front, lent_run, starts}
use Rattle.fixture_world.specs.runtest_rules.py_world.Resuming.{is_out}
use Rattle.fixture_world.specs.runtest_rules.Language.{python}
use Rattle.session_rules.proofs.Standing.{at_start}
use Rattle.session_rules.specs.Teardown.{SessionState}
use Rattle.run_items.specs.Stands.{IsPlannedItem, stand_state}
use Rattle.runtest_loop.specs.Fed.{AreKnown, numbers_fed, numbers_in_range}
use Rattle.test_suite.specs.declared.item.Item.{Item}
use Rattle.run_items.proofs.running.run.Goals as goal

pub run-requires-clause-here : goal.run-requires-clause-here
run-requires-clause-here g c = (c.requires.plan, at_start {L = python} is_out (stand_state c.args.stand.now) (ap (λ (s : SessionState python). s.live) (starts c.args.stand.now c.requires.start)))

pub run-requires-clause-start : goal.run-requires-clause-start
run-requires-clause-start g c = starts c.args.stand.now c.requires.start

pub run-requires-clause-known : goal.run-requires-clause-known
run-requires-clause-known g c = subst (λ (is : List Item). AreKnown (IsPlannedItem c.args.plan.now) is) (sym c.items-items.ensures) c.requires.known

pub run-requires-clause-in_range : goal.run-requires-clause-in_range
run-requires-clause-in_range g c = subst (λ (is : List Item). numbers_in_range (length is) c.args.groups.now) (sym c.items-items.ensures) c.requires.in_range

pub returns-in-Ok-clause-run : goal.returns-in-Ok-clause-run
returns-in-Ok-clause-run g c =
    let plan = c.args.plan.now in
    let ran = c.in-Ok.ensures.run in (
      ran.0,
      ran.1,
      lent_run plan plan.run.suite.items c.requires.known c.items-items.result.now c.items-items.ensures c.args.options.now (numbers_fed c.args.groups.now (g.F.Feed.given c.run.new.feed)) c.args.stand.now.world ran.0 c.in-Ok.end c.run.new.stage ran.2,
    )

pub returns-in-Ok-clause-spent : goal.returns-in-Ok-clause-spent
returns-in-Ok-clause-spent g c = all_spent c.run.new.stage c.in-Ok.ensures.empty

pub returns-in-Err-clause-begun : goal.returns-in-Err-clause-begun
returns-in-Err-clause-begun g c =
    let plan = c.args.plan.now in
    lent_front plan plan.run.suite.items c.requires.known c.items-items.result.now c.items-items.ensures c.args.options.now (numbers_fed c.args.groups.now (g.F.Feed.given c.run.new.feed)) c.args.stand.now.world (g.P.Receiver.taken c.args.to.now) (g.P.Receiver.taken c.run.new.to) c.in-Err.ensures.begun
