use Rattle.std.proofs.Common.{◌≡◌, ◌++◌, map, take}
use Rattle.collect_fixtures.specs.Tables.{item_node}
use Rattle.collect_fixtures.proofs.tables.push_items.Given as goal

abbrev pub invariant-loop-parent : goal.invariant-loop-parent
invariant-loop-parent l = l.nodes.items ≡ l.initial.nodes.items ++ map item_node (take l.parent-index l.parents)
