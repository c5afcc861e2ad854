use Rattle.std.proofs.Common.{◌∙◌, List, [], ℕ, ap}
use Rattle.session_types.specs.Live.{not_on}
use Rattle.session_rules.specs.Teardown.{down_all}
use Rattle.setup_stack.specs.Views.{stack_state}
use Rattle.fixture_instances.specs.Views.{live_instances}
use Rattle.setup_stack.proofs.stack.SetupStack.leave.Goals as goal

pub returns-clause-state : goal.returns-clause-state
returns-clause-state g c =
    let rules = g.W.Executor.rules c.args.setting.now in
    let stack = c.args.self.now in
    c.in_ok-raised.ensures.down ∙ ap (λ (chain : List ℕ). down_all rules (not_on chain (live_instances rules stack.live.live)) (stack_state rules c.args.world.now (record stack { given = [] }))) (c.deref.ensures.value ∙ c.in_ok-chain.ensures)
