use Rattle.std.proofs.Common.{◌∙◌, ap, Option}
use Rattle.std.specs.Prelude.{option_map}
use Rattle.fixture_world.specs.Items.{item_in_session}
use Rattle.run_items.proofs.Doings.{known_where, next_item_same}
use Rattle.run_items.specs.Stands.{plan_rules, stand_state}
use Rattle.session_rules.specs.Session.{torn_down}
use Rattle.session_rules.specs.World.{Item}
use Rattle.run_items.proofs.leaving.tear_down.Goals as goal

pub leave-requires-clause-here : goal.leave-requires-clause-here
leave-requires-clause-here c = c.requires.plan

pub leave-requires-clause-known : goal.leave-requires-clause-known
leave-requires-clause-known c = c.requires.item

pub leave-requires-clause-next : goal.leave-requires-clause-next
leave-requires-clause-next c = known_where c.args.plan.now (option_map (λ item. item.now) c.args.next) c.requires.next

pub returns-clause-state : goal.returns-clause-state
returns-clause-state c =
    let plan = c.args.plan.now in
    c.in_ok-raised.ensures.state
    ∙ ap (λ (next : Option Item). torn_down (plan_rules plan) (item_in_session plan.table c.args.item.now) next (stand_state c.args.stand.now)) (next_item_same plan (option_map (λ item. item.now) c.args.next))

pub leave-requires-clause-frames : goal.leave-requires-clause-frames
leave-requires-clause-frames c = c.requires.frames

pub returns-clause-frames : goal.returns-clause-frames
returns-clause-frames c = c.in_ok-raised.ensures.frames
