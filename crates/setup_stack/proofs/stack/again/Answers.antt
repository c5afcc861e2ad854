use Rattle.std.proofs.Common.{[], List, subst, length}
use Rattle.fixture_instances.specs.Items.{item_for_session}
use Rattle.setup_stack.specs.declared.frame.AskFrame.{AskFrame}
use Rattle.setup_stack.specs.Asking.{IsHanded}
use Rattle.setup_stack.specs.Views.{stack_state}
use Rattle.setup_stack.proofs.Requests.{requests_low}
use Rattle.setup_stack.proofs.Stands.{demanded_again, unchanged}
use Rattle.setup_stack.proofs.Turns.{found_again, next_low}
use Rattle.setup_stack.proofs.stack.again.Goals as goal

pub settle_bare-requires-clause-def : goal.settle_bare-requires-clause-def
settle_bare-requires-clause-def g c = next_low (g.W.Executor.rules c.args.setting.now) (item_for_session c.args.table.now c.args.item.now) (length c.args.table.now.defs) (g.W.Executor.rules c.args.setting.now).depth c.args.below.now.items c.args.top c.args.next c.requires.deep c.requires.next

pub returns-clause-turn : goal.returns-clause-turn
returns-clause-turn g c =
    let rules = g.W.Executor.rules c.args.setting.now in
    let table = c.args.table.now in
    let item = item_for_session table c.args.item.now in
    let s = stack_state rules c.args.world.now c.args.stack.now in
    let t = stack_state rules c.settle_bare.new.world c.settle_bare.new.stack in
    found_again rules item (length table.defs) c.args.below.now.items c.hand.new.below.items c.args.top c.args.next c.in_ok-answer.answer c.in_ok-turn.turn s t
    (requests_low table c.args.item.now) c.requires.deep c.requires.next
    (demanded_again rules item c.args.next [] s t c.in_ok-answer.answer c.requires.stands c.in_ok-answer.ensures.answer c.in_ok-answer.ensures.state)
    (subst (λ (l : List (AskFrame _)). IsHanded l c.in_ok-answer.answer c.in_ok-turn.turn c.hand.new.below.items) c.in_ok-push.ensures.items c.in_ok-turn.ensures)

pub returns-clause-state : goal.returns-clause-state
returns-clause-state g c =
    let rules = g.W.Executor.rules c.args.setting.now in
    let item = item_for_session c.args.table.now c.args.item.now in
    unchanged rules item c.args.next [] (stack_state rules c.args.world.now c.args.stack.now) (stack_state rules c.settle_bare.new.world c.settle_bare.new.stack) c.in_ok-answer.answer c.requires.stands c.in_ok-answer.ensures.state
