use Rattle.std.proofs.Common.{ap, ◌∙◌, arith, List}
use Rattle.collect_items.specs.Items.{fixtures_with}
use Rattle.collect_rows.specs.declared.items.FoundItem.{FoundItem}
use Rattle.collect_ids.specs.Files.{before_others, tests_asked}
use Rattle.collect_ids.proofs.TestWalk.{before_none, tests_done, tests_on}
use Rattle.collect_ids.proofs.tests.tests_asked.Goals as goal

pub loop-test-init : goal.loop-test-init
loop-test-init c =
    let f = fixtures_with c.args.table.now c.args.names.now c.args.definitions.now in
    let all = tests_asked c.args.limit c.args.hooks.now f c.args.impls.now c.args.first c.args.tests.now c.args.world.now in
    record {
      node = omega arith;
      items = ap (λ (xs : List FoundItem). before_others xs all) c.new-found.ensures ∙ before_none all;
    }

pub loop-test-preserved : goal.loop-test-preserved
loop-test-preserved c =
    let f = fixtures_with c.args.table.now c.args.names.now c.args.definitions.now in
    record {
      node = omega (arith, c.in_ok-behind.ensures, c.loop-test.invariant.node);
      items = tests_on c.args.limit c.args.hooks.now f c.args.impls.now c.args.tests.now c.loop-test.test-index _ _ c.test-item.result _ _ _ _ _ _ (omega arith) c.test-item.is c.loop-test.invariant.items c.in_ok-fault.ensures c.in_default.is c.in_ok-behind.ensures;
    }

pub returns : goal.returns
returns c =
    let f = fixtures_with c.args.table.now c.args.names.now c.args.definitions.now in
    tests_done c.args.limit c.args.hooks.now f c.args.impls.now c.args.tests.now c.loop-test.test-index c.loop-test.node _ _ _ (omega arith) c.loop-test.invariant.items
