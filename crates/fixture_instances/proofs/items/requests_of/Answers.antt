use Rattle.std.proofs.Common.{◌∙◌, ◌++◌, sym, ap}
use Rattle.std.proofs.lemmas.List.{append-nil, at_drop_all}
use Rattle.fixture_instances.specs.Items.{bound_names, requested_all}
use Rattle.fixture_instances.proofs.Requests.{requests_same}
use Rattle.fixture_instances.proofs.items.requests_of.Goals as goal

pub returns : goal.returns
returns g c =
    let all = requested_all c.args.table.now.nodes c.args.table.now.defs c.args.item.now.node (bound_names c.args.item.now.bound) c.args.def in
    sym (append-nil c.loop-name.out)
    ∙ (sym (at_drop_all (λ l. c.loop-name.out ++ all l) _ c.loop-name.name-index c.loop-name-test.false)
    ∙ (c.loop-name.invariant.same ∙ (ap all c.loop-name.invariant.args ∙ sym (requests_same c.args.table.now c.args.item.now c.args.def))))
