use Rattle.std.proofs.Common.{arith}
use Rattle.fixture_definitions.specs.Tests.{tests_of}
use Rattle.collect_items.proofs.Steps.{flat_at}
use Rattle.collect_items.proofs.found.list_tests.Goals as goal

pub loop-one-preserved : goal.loop-one-preserved
loop-one-preserved c = flat_at (tests_of c.args.heap.now) c.args.placed.now c.loop-one.one-index _ _ _ _ (omega arith) c.loop-one.invariant c.in_ok-push_tests.ensures
