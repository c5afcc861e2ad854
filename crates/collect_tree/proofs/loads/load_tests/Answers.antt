use Rattle.std.proofs.Common.{arith}
use Rattle.collect_tree.proofs.Turns.{tests_done, tests_on}
use Rattle.collect_tree.proofs.loads.load_tests.Goals as goal

pub loop-place-preserved : goal.loop-place-preserved
loop-place-preserved c =
    tests_on c.args.limit c.args.walk.now c.args.places.now c.loop-place.place-index _ _ _ _ _ _ _ (omega arith) c.loop-place.invariant c.in_ok-load_test.ensures

pub returns : goal.returns
returns c = tests_done c.args.limit c.args.walk.now c.args.places.now c.loop-place.place-index _ _ _ _ (omega arith) c.loop-place.invariant
