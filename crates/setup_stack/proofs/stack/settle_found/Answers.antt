use Rattle.std.proofs.Common.{◌≡◌, ◌∙◌, sym, ap, ℕ, Option, true, false}
use Rattle.session_rules.specs.Demand.{is_same}
use Rattle.fixture_instances.specs.Items.{item_for_session, parameter_in, def_scope_node}
use Rattle.setup_stack.specs.Views.{grants_of, stack_state}
use Rattle.setup_stack.proofs.Settles.{found_other, found_same, here, same_param}
use Rattle.setup_stack.proofs.stack.settle_found.Goals as goal

pub returns-then-is_same-clause-answer : goal.returns-then-is_same-clause-answer
returns-then-is_same-clause-answer g c =
    let rules = g.W.Executor.rules c.args.setting.now in
    let item = item_for_session c.args.table.now c.args.item.now in
    let live = c.args.stack.now.live.live in
    let h = here rules c.args.def (def_scope_node c.args.table.now c.args.item.now c.args.def) c.args.id.order live c.requires.there c.is_in_order.ensures.rising in
    let param = same_param c.args.id.order live h.one c.get.result.now h.numbered c.get.ensures in
    let wanted : c.parameter_in.result ≡ parameter_in c.args.item.now.params c.args.def = c.parameter_in.ensures ∙ ap (λ l. parameter_in l c.args.def) c.items.ensures in
    let e : is_same h.one.param (parameter_in c.args.item.now.params c.args.def) ≡ true = ap (λ (x : Option ℕ). is_same x (parameter_in c.args.item.now.params c.args.def)) (sym param) ∙ (ap (λ (x : Option ℕ). is_same c.get.result.now.param x) (sym wanted) ∙ (sym c.is_same.ensures ∙ c.if-is_same.true)) in
    ap (λ r. r.answer) (sym (found_same rules item c.args.def c.args.id.order (grants_of rules c.args.given.now) live (stack_state rules c.args.world.now c.args.stack.now) c.in_ok-answer.answer h e c.in_ok-answer.ensures))

pub returns-then-is_same-clause-state : goal.returns-then-is_same-clause-state
returns-then-is_same-clause-state g c =
    let rules = g.W.Executor.rules c.args.setting.now in
    let item = item_for_session c.args.table.now c.args.item.now in
    let live = c.args.stack.now.live.live in
    let h = here rules c.args.def (def_scope_node c.args.table.now c.args.item.now c.args.def) c.args.id.order live c.requires.there c.is_in_order.ensures.rising in
    let param = same_param c.args.id.order live h.one c.get.result.now h.numbered c.get.ensures in
    let wanted : c.parameter_in.result ≡ parameter_in c.args.item.now.params c.args.def = c.parameter_in.ensures ∙ ap (λ l. parameter_in l c.args.def) c.items.ensures in
    let e : is_same h.one.param (parameter_in c.args.item.now.params c.args.def) ≡ true = ap (λ (x : Option ℕ). is_same x (parameter_in c.args.item.now.params c.args.def)) (sym param) ∙ (ap (λ (x : Option ℕ). is_same c.get.result.now.param x) (sym wanted) ∙ (sym c.is_same.ensures ∙ c.if-is_same.true)) in
    ap (λ r. r.state) (sym (found_same rules item c.args.def c.args.id.order (grants_of rules c.args.given.now) live (stack_state rules c.args.world.now c.args.stack.now) c.in_ok-answer.answer h e c.in_ok-answer.ensures))

pub returns-clause-answer : goal.returns-clause-answer
returns-clause-answer g c =
    let rules = g.W.Executor.rules c.args.setting.now in
    let item = item_for_session c.args.table.now c.args.item.now in
    let live = c.args.stack.now.live.live in
    let h = here rules c.args.def (def_scope_node c.args.table.now c.args.item.now c.args.def) c.args.id.order live c.requires.there c.is_in_order.ensures.rising in
    let param = same_param c.args.id.order live h.one c.get.result.now h.numbered c.get.ensures in
    let wanted : c.parameter_in.result ≡ parameter_in c.args.item.now.params c.args.def = c.parameter_in.ensures ∙ ap (λ l. parameter_in l c.args.def) c.items.ensures in
    let e : is_same h.one.param (parameter_in c.args.item.now.params c.args.def) ≡ false = ap (λ (x : Option ℕ). is_same x (parameter_in c.args.item.now.params c.args.def)) (sym param) ∙ (ap (λ (x : Option ℕ). is_same c.get.result.now.param x) (sym wanted) ∙ (sym c.is_same.ensures ∙ c.if-is_same.false)) in
    c.in_ok-answer-2.ensures.answer ∙ ap (λ r. r.answer) (sym (found_other rules item c.args.def c.args.id.order (grants_of rules c.args.given.now) live (stack_state rules c.args.world.now c.args.stack.now) h e))

pub returns-clause-state : goal.returns-clause-state
returns-clause-state g c =
    let rules = g.W.Executor.rules c.args.setting.now in
    let item = item_for_session c.args.table.now c.args.item.now in
    let live = c.args.stack.now.live.live in
    let h = here rules c.args.def (def_scope_node c.args.table.now c.args.item.now c.args.def) c.args.id.order live c.requires.there c.is_in_order.ensures.rising in
    let param = same_param c.args.id.order live h.one c.get.result.now h.numbered c.get.ensures in
    let wanted : c.parameter_in.result ≡ parameter_in c.args.item.now.params c.args.def = c.parameter_in.ensures ∙ ap (λ l. parameter_in l c.args.def) c.items.ensures in
    let e : is_same h.one.param (parameter_in c.args.item.now.params c.args.def) ≡ false = ap (λ (x : Option ℕ). is_same x (parameter_in c.args.item.now.params c.args.def)) (sym param) ∙ (ap (λ (x : Option ℕ). is_same c.get.result.now.param x) (sym wanted) ∙ (sym c.is_same.ensures ∙ c.if-is_same.false)) in
    c.in_ok-answer-2.ensures.state ∙ ap (λ r. r.state) (sym (found_other rules item c.args.def c.args.id.order (grants_of rules c.args.given.now) live (stack_state rules c.args.world.now c.args.stack.now) h e))
