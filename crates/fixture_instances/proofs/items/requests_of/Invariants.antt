use Rattle.std.proofs.Common.{◌≡◌, ◌++◌, drop}
use Rattle.fixture_table.specs.Nearest.{def_at}
use Rattle.fixture_instances.specs.Items.{bound_names, requested_all}
use Rattle.fixture_instances.proofs.items.requests_of.Given as goal

abbrev pub invariant-loop-name : goal.invariant-loop-name
invariant-loop-name g l = record {
  args : l.name-items ≡ (def_at l.table.defs l.def).args;
  same : l.out ++ requested_all l.table.nodes l.table.defs l.item.node (bound_names l.item.bound) l.def (drop l.name-index l.name-items) ≡ requested_all l.table.nodes l.table.defs l.item.node (bound_names l.item.bound) l.def l.name-items;
}
