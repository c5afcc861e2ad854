use Rattle.std.proofs.Common.{◌∙◌, sym, ap, map}
use Rattle.session_rules.specs.Teardown.{some_raised}
use Rattle.live_chains.specs.Chained.{id_order}
use Rattle.fixture_instances.specs.Items.{item_for_session, def_scope_node}
use Rattle.setup_stack.specs.Views.{grants_of, stack_state}
use Rattle.setup_stack.proofs.Downs.{gone_with}
use Rattle.setup_stack.proofs.Finds.{found, free_behind}
use Rattle.setup_stack.proofs.Settles.{made_answer, made_state, refused_answer, refused_state}
use Rattle.setup_stack.proofs.stack.replace.Goals as goal

pub down_each-requires-clause-live : goal.down_each-requires-clause-live
down_each-requires-clause-live g c = λ i h. c.in_ok-ids.ensures.live i (rw c.deref.ensures.value at h)

pub set_up-requires-clause-free : goal.set_up-requires-clause-free
set_up-requires-clause-free g c =
    free_behind c.args.def (def_scope_node c.args.table.now c.args.item.now c.args.def) c.args.id.order (map id_order c.deref.result.now) c.args.stack.now.live.live c.down_each.new.stack.live.live (found c.args.def (def_scope_node c.args.table.now c.args.item.now c.args.def) c.args.id.order c.args.stack.now.live.live c.requires.there) c.is_in_order.ensures.single
    (ap (map id_order) c.deref.ensures.value ∙ c.in_ok-ids.ensures.same) c.in_ok-down_each.ensures.live

pub returns-then-has_any-clause-answer : goal.returns-then-has_any-clause-answer
returns-then-has_any-clause-answer g c =
    let rules = g.W.Executor.rules c.args.setting.now in
    refused_answer rules (item_for_session c.args.table.now c.args.item.now) c.args.def (grants_of rules c.args.given.now) c.down_each.new.raised (stack_state rules c.down_each.new.world c.down_each.new.stack) _
    (gone_with rules c.args.id.order (map id_order c.deref.result.now) c.new-raised.result c.down_each.new.raised c.args.world.now c.args.stack.now (stack_state rules c.down_each.new.world c.down_each.new.stack) c.in_ok-down_each.ensures.down c.new-raised.ensures (ap (map id_order) c.deref.ensures.value ∙ c.in_ok-ids.ensures.same))
    (sym (ap some_raised c.items.ensures) ∙ (sym c.has_any.ensures ∙ c.if-has_any.true))

pub returns-then-has_any-clause-state : goal.returns-then-has_any-clause-state
returns-then-has_any-clause-state g c =
    let rules = g.W.Executor.rules c.args.setting.now in
    refused_state rules (item_for_session c.args.table.now c.args.item.now) c.args.def (grants_of rules c.args.given.now) c.down_each.new.raised (stack_state rules c.down_each.new.world c.down_each.new.stack) _
    (gone_with rules c.args.id.order (map id_order c.deref.result.now) c.new-raised.result c.down_each.new.raised c.args.world.now c.args.stack.now (stack_state rules c.down_each.new.world c.down_each.new.stack) c.in_ok-down_each.ensures.down c.new-raised.ensures (ap (map id_order) c.deref.ensures.value ∙ c.in_ok-ids.ensures.same))
    (sym (ap some_raised c.items.ensures) ∙ (sym c.has_any.ensures ∙ c.if-has_any.true))

pub returns-clause-answer : goal.returns-clause-answer
returns-clause-answer g c =
    let rules = g.W.Executor.rules c.args.setting.now in
    c.in_ok-answer.ensures.answer ∙ made_answer rules (item_for_session c.args.table.now c.args.item.now) c.args.def (grants_of rules c.args.given.now) c.down_each.new.raised (stack_state rules c.down_each.new.world c.down_each.new.stack) _
    (gone_with rules c.args.id.order (map id_order c.deref.result.now) c.new-raised.result c.down_each.new.raised c.args.world.now c.args.stack.now (stack_state rules c.down_each.new.world c.down_each.new.stack) c.in_ok-down_each.ensures.down c.new-raised.ensures (ap (map id_order) c.deref.ensures.value ∙ c.in_ok-ids.ensures.same))
    (sym (ap some_raised c.items.ensures) ∙ (sym c.has_any.ensures ∙ c.if-has_any.false))

pub returns-clause-state : goal.returns-clause-state
returns-clause-state g c =
    let rules = g.W.Executor.rules c.args.setting.now in
    c.in_ok-answer.ensures.state ∙ made_state rules (item_for_session c.args.table.now c.args.item.now) c.args.def (grants_of rules c.args.given.now) c.down_each.new.raised (stack_state rules c.down_each.new.world c.down_each.new.stack) _
    (gone_with rules c.args.id.order (map id_order c.deref.result.now) c.new-raised.result c.down_each.new.raised c.args.world.now c.args.stack.now (stack_state rules c.down_each.new.world c.down_each.new.stack) c.in_ok-down_each.ensures.down c.new-raised.ensures (ap (map id_order) c.deref.ensures.value ∙ c.in_ok-ids.ensures.same))
    (sym (ap some_raised c.items.ensures) ∙ (sym c.has_any.ensures ∙ c.if-has_any.false))
