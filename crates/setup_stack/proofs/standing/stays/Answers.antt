use Rattle.std.proofs.Common.{◌≡◌, ◌∙◌, ℕ, None, sym, ap}
use Rattle.std.specs.Option.{option_map}
use Rattle.fixture_instances.specs.Items.{item_for_session, parameter_in, def_scope_node}
use Rattle.session_types.specs.Live.{find, instance_number}
use Rattle.setup_stack.specs.Standing.{stays}
use Rattle.setup_stack.proofs.Settles.{not_found, stays_found}
use Rattle.setup_stack.proofs.standing.stays.Goals as goal

pub returns-in-None : goal.returns-in-None
returns-in-None g c =
    let table = c.args.table.now in
    let live = c.args.live.now.live in
    let free : find c.args.def (def_scope_node table c.args.item.now c.args.def) live ≡ None = ap (λ (p : ℕ). find c.args.def p live) (sym c.place_of.ensures) ∙ not_found c.args.def c.place_of.result live c.in-None.ensures.same in
    sym (ap (stays (item_for_session table c.args.item.now) c.args.def) free)

pub returns-in-Some : goal.returns-in-Some
returns-in-Some g c =
    let table = c.args.table.now in
    let live = c.args.live.now.live in
    stays_found (item_for_session table c.args.item.now) c.args.def (def_scope_node table c.args.item.now c.args.def) c.in-Some.id.order live c.get.result.now c.parameter_in.result c.is_same.result
    (sym (c.in-Some.ensures.same ∙ ap (λ (p : ℕ). option_map instance_number (find c.args.def p live)) c.place_of.ensures))
    c.is_in_order.ensures.rising c.get.ensures (c.parameter_in.ensures ∙ ap (λ l. parameter_in l c.args.def) c.items.ensures) c.is_same.ensures
