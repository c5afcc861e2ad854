use Rattle.std.proofs.Common.{refl}
use Rattle.item_stack.proofs.Asked.{closure_left}
use Rattle.item_stack.proofs.Same.{stand_above, stand_below}
use Rattle.item_stack.proofs.demanding.demand_all.Goals as goal

pub returns-clause-state : goal.returns-clause-state
returns-clause-state g c =
    λ item a.
    let held = c.args.held.now in
    closure_left (g.W.Executor.rules c.args.setting.now) item c.args.table.now c.args.at.now c.args.defs.now c.args.world.now c.demand_all.new.world held (record { stack = c.demand_all.new.self; request = held.request })
    c.in_ok-raised.raised a c.requires.own refl c.in_ok-raised.ensures.state

pub demand_all-requires-clause-frames : goal.demand_all-requires-clause-frames
demand_all-requires-clause-frames g c = stand_below (g.W.Executor.rules c.args.setting.now) g.W.Executor.is_out c.args.world.now c.args.held.now c.requires.frames

pub returns-clause-frames : goal.returns-clause-frames
returns-clause-frames g c =
    stand_above (g.W.Executor.rules c.args.setting.now) g.W.Executor.is_out c.demand_all.new.world (record { stack = c.demand_all.new.self; request = c.args.held.now.request }) c.in_ok-raised.ensures.frames
