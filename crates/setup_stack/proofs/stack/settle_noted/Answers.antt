use Rattle.std.proofs.Common.{sym, ◌∙◌}
use Rattle.fixture_instances.specs.Items.{item_for_session, def_scope_node}
use Rattle.fixture_instances.specs.Views.{live_instances}
use Rattle.setup_stack.specs.Views.{grants_of, stack_state}
use Rattle.setup_stack.proofs.Settles.{stays_dressed}
use Rattle.setup_stack.proofs.Stands.{none_stand, settled_stand}
use Rattle.setup_stack.proofs.stack.settle_noted.Goals as goal

pub returns-then-keeps-clause-stand : goal.returns-then-keeps-clause-stand
returns-then-keeps-clause-stand g c =
    let rules = g.W.Executor.rules c.args.setting.now in
    let table = c.args.table.now in
    let item = item_for_session table c.args.item.now in
    settled_stand rules item c.args.def (grants_of rules c.args.given.now) (stack_state rules c.args.world.now c.args.stack.now) (stack_state rules c.settle.new.world c.settle.new.stack) c.in_ok-answer.answer c.args.marks.now.items c.note.new.marks.items
    c.requires.stand
    (stays_dressed rules item c.args.def (def_scope_node table c.args.item.now c.args.def) c.args.stack.now.live.live ∙ (sym c.stays-keeps.ensures ∙ c.if-keeps.true))
    c.in_ok-answer.ensures.answer c.in_ok-answer.ensures.state c.in_ok-note.ensures

pub returns-clause-stand : goal.returns-clause-stand
returns-clause-stand g c =
    let rules = g.W.Executor.rules c.args.setting.now in
    none_stand rules (item_for_session c.args.table.now c.args.item.now) (live_instances rules c.settle.new.stack.live.live) c.clear.new.self.items c.clear.ensures.items
