use Rattle.std.proofs.Common.{◌∙◌, [], refl, length}
use Rattle.fixture_instances.specs.Items.{item_for_session, requests_in}
use Rattle.setup_stack.specs.Views.{stack_state}
use Rattle.setup_stack.proofs.Requests.{requests_low}
use Rattle.setup_stack.proofs.Turns.{done_same, first_deep, first_same, goes_deep, goes_same}
use Rattle.setup_stack.proofs.Marked.{looked_at}
use Rattle.setup_stack.proofs.Stands.{settled_again, stand_same, unchanged}
use Rattle.setup_stack.proofs.stack.demand.Goals as goal

pub asking-init : goal.asking-init
asking-init g c =
    let rules = g.W.Executor.rules c.args.setting.now in
    let table = c.args.table.now in
    let item = item_for_session table c.args.item.now in
    record {
      deep = first_deep rules item (length table.defs) c.args.def c.new-below.result.items c.in_ok-top.top (requests_in table c.args.item.now c.args.def) (requests_low table c.args.item.now) c.requires.ready c.new-below.ensures.items c.in_ok-top.ensures refl;
      same = first_same rules item c.args.def c.new-below.result.items c.in_ok-top.top (requests_in table c.args.item.now c.args.def) (stack_state rules c.args.world.now c.args.stack.now) c.new-below.ensures.items c.in_ok-top.ensures refl;
      stand = c.requires.stand;
      frames = c.requires.frames;
    }

pub asking-preserved : goal.asking-preserved
asking-preserved g c =
    let rules = g.W.Executor.rules c.args.setting.now in
    let table = c.args.table.now in
    let item = item_for_session table c.args.item.now in
    let s = stack_state rules c.asking.world c.asking.stack in
    let t = stack_state rules c.turn.new.world c.turn.new.stack in
    record {
      deep = goes_deep rules item (length table.defs) c.asking.below.items c.asking.top s c.in_ok-next.field-0 c.turn.new.below.items t c.in-Goes.next c.in-Goes.is c.in_ok-next.ensures.turn;
      same = c.asking.invariant.same ∙ goes_same rules item (length table.defs) c.asking.below.items c.asking.top s c.in_ok-next.field-0 c.turn.new.below.items t c.in-Goes.next c.in-Goes.is c.in_ok-next.ensures.turn;
      stand = c.in_ok-next.ensures.stand;
      frames = c.in_ok-next.ensures.frames;
    }

pub returns-in-Done-clause-answer : goal.returns-in-Done-clause-answer
returns-in-Done-clause-answer g c =
    let rules = g.W.Executor.rules c.args.setting.now in
    let table = c.args.table.now in
    let item = item_for_session table c.args.item.now in
    c.asking.invariant.same ∙ done_same rules item (length table.defs) c.asking.below.items c.asking.top (stack_state rules c.asking.world c.asking.stack) c.in_ok-next.field-0 c.turn.new.below.items (stack_state rules c.turn.new.world c.turn.new.stack) c.in-Done.answer c.in-Done.is c.in_ok-next.ensures.turn

pub returns-then-is_marked-clause-answer : goal.returns-then-is_marked-clause-answer
returns-then-is_marked-clause-answer g c =
    let rules = g.W.Executor.rules c.args.setting.now in
    let item = item_for_session c.args.table.now c.args.item.now in
    settled_again rules item c.args.def [] (stack_state rules c.args.world.now c.args.stack.now) (stack_state rules c.settle_bare.new.world c.settle_bare.new.stack) c.in_ok-answer.answer (c.requires.stand c.args.def (looked_at c.as_slice.result.now c.args.marks.now.items c.number.result c.args.def c.is_marked.result c.as_slice.ensures.value c.number.ensures c.is_marked.ensures c.if-is_marked.true)) c.in_ok-answer.ensures.answer c.in_ok-answer.ensures.state rules.depth c.requires.ready.1

pub returns-then-is_marked-clause-stand : goal.returns-then-is_marked-clause-stand
returns-then-is_marked-clause-stand g c =
    let rules = g.W.Executor.rules c.args.setting.now in
    let item = item_for_session c.args.table.now c.args.item.now in
    let s = stack_state rules c.args.world.now c.args.stack.now in
    let t = stack_state rules c.settle_bare.new.world c.settle_bare.new.stack in
    stand_same rules item s t c.args.marks.now.items (unchanged rules item c.args.def [] s t c.in_ok-answer.answer (c.requires.stand c.args.def (looked_at c.as_slice.result.now c.args.marks.now.items c.number.result c.args.def c.is_marked.result c.as_slice.ensures.value c.number.ensures c.is_marked.ensures c.if-is_marked.true)) c.in_ok-answer.ensures.state) c.requires.stand
