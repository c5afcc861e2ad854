use Rattle.std.proofs.Common.{[], subst, sym}
use Rattle.fixture_world.specs.Kept.{keeps_within}
use Rattle.fixture_world.specs.Items.{item_in_session}
use Rattle.fixture_world.specs.runtest_rules.Language.{python}
use Rattle.fixture_world.specs.runtest_rules.py_world.Resuming.{is_out}
use Rattle.run_items.specs.Stands.{plan_rules, stand_state}
use Rattle.session_rules.specs.Frames.{StandsWith}
use Rattle.session_rules.specs.Teardown.{SessionState}
use Rattle.session_rules.proofs.Standing.{opened_stands}
use Rattle.run_items.proofs.staging.StandStage.open.Goals as goal

pub returns-clause-state : goal.returns-clause-state
returns-clause-state c = c.in_ok-open.ensures

pub returns-clause-here : goal.returns-clause-here
returns-clause-here c =
    let plan = c.args.plan.now in (
      c.requires.here.0,
      subst (λ (s : SessionState python). StandsWith s is_out []) (sym c.in_ok-open.ensures)
          (opened_stands {L = python} is_out (plan_rules plan) (keeps_within plan.run.limit plan.run.suite) [] (item_in_session plan.table c.args.item.now) (stand_state c.args.self.now) c.requires.here.1),
    )
