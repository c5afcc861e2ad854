use Rattle.std.proofs.Common.{◌≡◌, ◌+◌, ◌++◌, drop}
use Rattle.collect_items.specs.Items.{fixtures_with, items_from}
use Rattle.collect_items.proofs.item.items_from.Given as goal

abbrev pub invariant-loop-one : goal.invariant-loop-one
invariant-loop-one l =
    record {
      node : l.node ≡ l.first + l.one-index;
      items : l.found ++ items_from l.heap l.walk (fixtures_with l.table l.names l.definitions) l.node (drop l.one-index l.all) ≡ items_from l.heap l.walk (fixtures_with l.table l.names l.definitions) l.first l.all;
    }
