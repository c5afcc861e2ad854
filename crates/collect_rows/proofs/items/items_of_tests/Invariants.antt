use Rattle.std.proofs.Common.{◌≡◌, ◌+◌, drop}
use Rattle.collect_rows.specs.FileItems.{items_before, items_of_tests}
use Rattle.collect_rows.proofs.items.items_of_tests.Given as goal

abbrev pub invariant-loop-test : goal.invariant-loop-test
invariant-loop-test l =
    record {
      node : l.node ≡ l.first + l.test-index;
      items : items_before l.found (items_of_tests l.heap l.table l.names l.definitions l.node (drop l.test-index l.tests)) ≡ items_of_tests l.heap l.table l.names l.definitions l.first l.tests;
    }
