use Rattle.std.proofs.Common.{ap, ◌∙◌, arith}
use Rattle.collect_rows.specs.FileItems.{items_before, items_of_tests}
use Rattle.collect_rows.proofs.Walks.{fault_on, none_before, tests_done, tests_on}
use Rattle.collect_rows.proofs.items.items_of_tests.Goals as goal

pub loop-test-init : goal.loop-test-init
loop-test-init c =
    record {
      node = omega arith;
      items = ap (λ xs. items_before xs (items_of_tests c.args.heap.now c.args.table.now c.args.names.now c.args.definitions.now c.args.first c.args.tests.now)) c.new-found.ensures
          ∙ none_before (items_of_tests c.args.heap.now c.args.table.now c.args.names.now c.args.definitions.now c.args.first c.args.tests.now);
    }

pub loop-test-preserved : goal.loop-test-preserved
loop-test-preserved c =
    record {
      node = omega (arith, c.in_ok-behind.ensures, c.loop-test.invariant.node);
      items = tests_on c.args.heap.now c.args.table.now c.args.names.now c.args.definitions.now c.args.tests.now c.loop-test.test-index _ _ c.test-item.result _ _ _ _ (omega arith) c.test-item.is c.loop-test.invariant.items c.in_ok-fault.ensures c.in_default.is c.in_ok-behind.ensures;
    }

pub returns : goal.returns
returns c = tests_done c.args.heap.now c.args.table.now c.args.names.now c.args.definitions.now c.args.tests.now c.loop-test.test-index c.loop-test.node _ _ (omega arith) c.loop-test.invariant.items
