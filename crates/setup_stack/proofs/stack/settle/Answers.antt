use Rattle.std.proofs.Common.{◌≡◌, ◌∙◌, sym, ap, ℕ, None}
use Rattle.session_types.specs.Live.{find}
use Rattle.session_rules.specs.Demand.{settle}
use Rattle.fixture_instances.specs.Items.{item_for_session, def_scope_node}
use Rattle.setup_stack.specs.Views.{grants_of, stack_state}
use Rattle.setup_stack.proofs.Settles.{none_here, not_found}
use Rattle.setup_stack.proofs.stack.settle.Goals as goal

pub returns-in_ok-answer-in-None-clause-answer : goal.returns-in_ok-answer-in-None-clause-answer
returns-in_ok-answer-in-None-clause-answer g c =
    let rules = g.W.Executor.rules c.args.setting.now in
    let item = item_for_session c.args.table.now c.args.item.now in
    let live = c.args.stack.now.live.live in
    let place = def_scope_node c.args.table.now c.args.item.now c.args.def in
    let free : find c.args.def place live ≡ None = ap (λ (p : ℕ). find c.args.def p live) (sym c.place_of.ensures) ∙ not_found c.args.def c.place_of.result live c.in-None.ensures.same in
    c.in_ok-answer-in-None.ensures.answer ∙ ap (λ o. (settle rules item c.args.def (grants_of rules c.args.given.now) o (stack_state rules c.args.world.now c.args.stack.now)).answer) (sym (none_here rules c.args.def place live free))

pub returns-in_ok-answer-in-None-clause-state : goal.returns-in_ok-answer-in-None-clause-state
returns-in_ok-answer-in-None-clause-state g c =
    let rules = g.W.Executor.rules c.args.setting.now in
    let item = item_for_session c.args.table.now c.args.item.now in
    let live = c.args.stack.now.live.live in
    let place = def_scope_node c.args.table.now c.args.item.now c.args.def in
    let free : find c.args.def place live ≡ None = ap (λ (p : ℕ). find c.args.def p live) (sym c.place_of.ensures) ∙ not_found c.args.def c.place_of.result live c.in-None.ensures.same in
    c.in_ok-answer-in-None.ensures.state ∙ ap (λ o. (settle rules item c.args.def (grants_of rules c.args.given.now) o (stack_state rules c.args.world.now c.args.stack.now)).state) (sym (none_here rules c.args.def place live free))
