use Rattle.std.proofs.Common.{◌≡◌, map, take}
use Rattle.collect_items.specs.Items.{parent_of_found}
use Rattle.collect_items.proofs.found.test_parents.Given as goal

abbrev pub invariant-loop-test : goal.invariant-loop-test
invariant-loop-test l = l.parents.items ≡ map parent_of_found (take l.test-index l.tests)
