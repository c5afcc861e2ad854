use Rattle.std.proofs.Common.{[], subst, sym}
use Rattle.fixture_world.specs.Kept.{keeps_within}
use Rattle.fixture_world.specs.Items.{item_in_session}
use Rattle.fixture_world.specs.runtest_rules.Language.{python}
use Rattle.fixture_world.specs.runtest_rules.py_world.Resuming.{is_out}
use Rattle.run_items.specs.Stands.{plan_rules, stand_state}
use Rattle.session_rules.specs.Frames.{StandsWith}
use Rattle.session_rules.specs.Teardown.{SessionState, session_step}
use Rattle.runtest_reports.specs.Kept.{session_phase}
use Rattle.session_rules.proofs.Standing.{told_stands}
use Rattle.run_items.proofs.staging.StandStage.end_phase.Goals as goal

pub returns-clause-told : goal.returns-clause-told
returns-clause-told c = c.in_ok-ended.ensures.told

pub returns-clause-state : goal.returns-clause-state
returns-clause-state c = c.in_ok-ended.ensures.state

pub returns-clause-here : goal.returns-clause-here
returns-clause-here c =
    let plan = c.args.plan.now in (
      c.requires.here.0,
      subst (λ (s : SessionState python). StandsWith s is_out []) (sym c.in_ok-ended.ensures.state)
          (told_stands {L = python} is_out (plan_rules plan) (keeps_within plan.run.limit plan.run.suite) [] (session_phase c.args.phase) (item_in_session plan.table c.args.item.now) (session_step c.args.raised (stand_state c.args.self.now)) c.requires.here.1),
    )
