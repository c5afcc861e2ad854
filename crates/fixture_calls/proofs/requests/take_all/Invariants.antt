use Rattle.std.proofs.Common.{◌≡◌, ◌++◌, length, reverse}
use Rattle.py_world.specs.World.{world_with_heap}
use Rattle.fixture_calls.specs.Asking.{spent_request}
use Rattle.py_machine.specs.runner_values.Requests.{finalizers_of, request_changed, request_closed}
use Rattle.fixture_calls.proofs.requests.take_all.Given as goal

abbrev pub invariant-taking : goal.invariant-taking
invariant-taking l = record {
  closed : request_closed l.request l.world.heap ≡ l.world.heap;
  left : l.finalizers ++ reverse (finalizers_of l.request l.world.heap) ≡ reverse (finalizers_of l.request l.fn.world.heap);
  spent : request_changed spent_request l.request l.world.heap ≡ request_changed spent_request l.request l.fn.world.heap;
  same : l.world ≡ world_with_heap l.world.heap l.fn.world;
}

abbrev pub decreases-taking : goal.decreases-taking
decreases-taking l = length (finalizers_of l.request l.world.heap)
