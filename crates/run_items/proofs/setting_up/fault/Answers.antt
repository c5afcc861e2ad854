use Rattle.std.proofs.Common.{◌∙◌, ap, List}
use Rattle.fixture_world.specs.fixture_calls.declared.failure.Failure.{Failure}
use Rattle.run_items.proofs.Doings.{fault_same}
use Rattle.run_items.specs.Stands.{stand_state}
use Rattle.session_rules.specs.Teardown.{in_world, session_step}
use Rattle.run_items.proofs.setting_up.fault.Goals as goal

pub returns : goal.returns
returns c =
    let s = stand_state c.args.stand.now in
    ap (λ (raised : List Failure). session_step raised (in_world c.fixture_fault.new.world s)) c.in_ok-raised.ensures
    ∙ fault_same c.args.plan.now c.args.item.now c.requires.item s c.in_ok-failure.failure c.fixture_fault.new.world c.requires.closure c.in_ok-failure.ensures
