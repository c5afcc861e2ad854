use Rattle.std.proofs.Common.{◌≡◌, subst, List}
use Rattle.std.specs.Prelude.{IfOk, OnOk}
use Rattle.fixture_world.specs.fixture_calls.declared.failure.Failure.{Failure}
use Rattle.fixture_world.specs.Items.{item_in_session}
use Rattle.run_items.specs.Stands.{plan_rules, stand_state}
use Rattle.runtest_reports.specs.Kept.{reported_ending, session_phase}
use Rattle.session_rules.specs.Session.{telling}
use Rattle.session_rules.specs.Teardown.{in_world, session_step}
use Rattle.run_items.proofs.ending.end_phase.Goals as goal

pub returns-clause-told : goal.returns-clause-told
returns-clause-told c =
    subst (λ (raised : List Failure). IfOk c.end_of-ending.result (λ ending. reported_ending ending ≡ (telling (plan_rules c.args.plan.now) (session_phase c.args.phase) (item_in_session c.args.plan.now.table c.args.item.now) (session_step raised (stand_state c.args.stand.now))).told))
    c.items.ensures c.end_of-ending.ensures.told

pub returns-clause-state : goal.returns-clause-state
returns-clause-state c =
    subst (λ (raised : List Failure). OnOk c.end_of-ending.result (stand_state c.end_of-ending.new.stand ≡ in_world (telling (plan_rules c.args.plan.now) (session_phase c.args.phase) (item_in_session c.args.plan.now.table c.args.item.now) (session_step raised (stand_state c.args.stand.now))).world (stand_state c.args.stand.now)))
    c.items.ensures c.end_of-ending.ensures.state
