use Rattle.std.proofs.Common.{◌≡◌, ◌+◌, drop}
use Rattle.collect_items.specs.Items.{fixtures_with}
use Rattle.collect_ids.specs.Files.{before_others, tests_asked}
use Rattle.collect_ids.proofs.tests.tests_asked.Given as goal

abbrev pub invariant-loop-test : goal.invariant-loop-test
invariant-loop-test l =
    let f = fixtures_with l.table l.names l.definitions in
    record {
      node : l.node ≡ l.first + l.test-index;
      items : before_others l.found (tests_asked l.limit l.hooks f l.impls l.node (drop l.test-index l.tests) l.world) ≡ tests_asked l.limit l.hooks f l.impls l.first l.tests l.initial.world;
    }
