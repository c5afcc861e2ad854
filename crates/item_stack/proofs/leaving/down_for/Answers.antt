use Rattle.std.proofs.Common.{ℕ, List, [], Option, refl, ap, ◌∙◌}
use Rattle.fixture_instances.specs.Views.{live_instances}
use Rattle.fixture_instances.specs.declared.items.ItemRef.{ItemRef}
use Rattle.item_stack.proofs.Left.{gone_down, next_same}
use Rattle.item_stack.proofs.Same.{stand_above, stand_below}
use Rattle.item_stack.specs.Leaving.{chain_for}
use Rattle.session_rules.specs.Teardown.{down_all}
use Rattle.session_types.specs.Live.{not_on}
use Rattle.setup_stack.specs.SetUps.{next_chain}
use Rattle.setup_stack.specs.Views.{stack_state}
use Rattle.item_stack.proofs.leaving.down_for.Goals as goal

pub returns-clause-state : goal.returns-clause-state
returns-clause-state g c =
    let rules = g.W.Executor.rules c.args.setting.now in
    let table = c.args.table.now in
    let held = c.args.held.now in
    let emptied = stack_state rules c.args.world.now (record held.stack { given = [] }) in
    gone_down rules (chain_for table c.args.next) c.args.world.now c.leave.new.world held (record { stack = c.leave.new.self; request = held.request }) c.in_ok-raised.raised refl
    (c.in_ok-raised.ensures.state
    ∙ (ap (λ (o : Option (ItemRef g.row.W-Value.Denot)). down_all rules (not_on (next_chain table o) (live_instances rules held.stack.live.live)) emptied) (c.as_ref.ensures.value ∙ c.plain_next-at.ensures)
    ∙ ap (λ (chain : List ℕ). down_all rules (not_on chain (live_instances rules held.stack.live.live)) emptied) (next_same g.row.W-Value.Denot table c.args.next)))

pub leave-requires-clause-frames : goal.leave-requires-clause-frames
leave-requires-clause-frames g c = stand_below (g.W.Executor.rules c.args.setting.now) g.W.Executor.is_out c.args.world.now c.args.held.now c.requires.frames

pub returns-clause-frames : goal.returns-clause-frames
returns-clause-frames g c =
    stand_above (g.W.Executor.rules c.args.setting.now) g.W.Executor.is_out c.leave.new.world (record { stack = c.leave.new.self; request = c.args.held.now.request }) c.in_ok-raised.ensures.frames
