use Rattle.std.proofs.Common.{◌≡◌, ◌∙◌, refl, ap, length}
use Rattle.session_types.specs.Live.{find}
use Rattle.session_rules.specs.Demand.{settle}
use Rattle.fixture_instances.specs.Items.{item_for_session, requests_in}
use Rattle.setup_stack.specs.Views.{answer_in, grants_of, stack_state}
use Rattle.setup_stack.proofs.Marked.{looked_at}
use Rattle.setup_stack.proofs.Stands.{stand_same}
use Rattle.setup_stack.proofs.Requests.{requests_low}
use Rattle.setup_stack.proofs.Turns.{asked_more, handed_over, next_low, settled_top, top_low}
use Rattle.setup_stack.proofs.stack.turn.Goals as goal

pub open-requires-clause-def : goal.open-requires-clause-def
open-requires-clause-def g c = next_low (g.W.Executor.rules c.args.setting.now) (item_for_session c.args.table.now c.args.item.now) (length c.args.table.now.defs) (g.W.Executor.rules c.args.setting.now).depth c.args.below.now.items c.args.top c.in-Some.next c.requires.deep c.in-Some.ensures

pub settle_noted-requires-clause-def : goal.settle_noted-requires-clause-def
settle_noted-requires-clause-def g c = top_low (g.W.Executor.rules c.args.setting.now) (item_for_session c.args.table.now c.args.item.now) (length c.args.table.now.defs) (g.W.Executor.rules c.args.setting.now).depth c.args.below.now.items c.args.top c.requires.deep

pub returns-in_ok-push-in-Some-clause-turn : goal.returns-in_ok-push-in-Some-clause-turn
returns-in_ok-push-in-Some-clause-turn g c =
    let rules = g.W.Executor.rules c.args.setting.now in
    let table = c.args.table.now in
    let item = item_for_session table c.args.item.now in
    asked_more rules item (length table.defs) c.args.below.now.items c.push.new.self.items c.args.top c.in_ok-frame-in-Some.frame c.in-Some.next (requests_in table c.args.item.now c.in-Some.next) (stack_state rules c.args.world.now c.args.stack.now)
    (requests_low table c.args.item.now) c.requires.deep c.in-Some.ensures c.in_ok-frame-in-Some.ensures refl c.in_ok-push-in-Some.ensures.items

pub returns-in_ok-turn-in-None-clause-turn : goal.returns-in_ok-turn-in-None-clause-turn
returns-in_ok-turn-in-None-clause-turn g c =
    let rules = g.W.Executor.rules c.args.setting.now in
    let table = c.args.table.now in
    let item = item_for_session table c.args.item.now in
    let s = stack_state rules c.args.world.now c.args.stack.now in
    let t = stack_state rules c.settle_noted.new.world c.settle_noted.new.stack in
    let ea : answer_in rules c.in_ok-answer-in-None.answer ≡ (settle rules item c.args.top.def (grants_of rules c.args.top.given) (find c.args.top.def (item.place c.args.top.def) s.live) s).answer = c.in_ok-answer-in-None.ensures.answer ∙ ap (λ l. (settle rules item c.args.top.def (grants_of rules l) (find c.args.top.def (item.place c.args.top.def) s.live) s).answer) c.items.ensures in
    let et : t ≡ (settle rules item c.args.top.def (grants_of rules c.args.top.given) (find c.args.top.def (item.place c.args.top.def) s.live) s).state = c.in_ok-answer-in-None.ensures.state ∙ ap (λ l. (settle rules item c.args.top.def (grants_of rules l) (find c.args.top.def (item.place c.args.top.def) s.live) s).state) c.items.ensures in
    handed_over rules item (length table.defs) c.args.below.now.items c.hand.new.below.items c.args.top c.in_ok-answer-in-None.answer c.in_ok-turn-in-None.turn s t c.requires.deep
    (λ d ready. settled_top rules item d c.args.top c.in_ok-answer-in-None.answer s t c.in-None.ensures ea et) c.in_ok-turn-in-None.ensures

pub again-requires-clause-stands : goal.again-requires-clause-stands
again-requires-clause-stands g c = c.requires.stand c.in-Some.next (looked_at c.as_slice.result.now c.args.marks.now.items c.number.result c.in-Some.next c.is_marked.result c.as_slice.ensures.value c.number.ensures c.is_marked.ensures c.if-is_marked.true)

pub returns-then-is_marked-clause-stand : goal.returns-then-is_marked-clause-stand
returns-then-is_marked-clause-stand g c =
    let rules = g.W.Executor.rules c.args.setting.now in
    stand_same rules (item_for_session c.args.table.now c.args.item.now) (stack_state rules c.args.world.now c.args.stack.now) (stack_state rules c.again.new.world c.again.new.stack) c.args.marks.now.items c.in_ok-turn-in-Some.ensures.state c.requires.stand
