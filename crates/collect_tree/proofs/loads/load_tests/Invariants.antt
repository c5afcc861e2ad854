use Rattle.std.proofs.Common.{◌≡◌, drop}
use Rattle.collect_tree.specs.Loads.{test_loads}
use Rattle.collect_tree.specs.Told.{after_loads}
use Rattle.collect_tree.proofs.loads.load_tests.Given as goal

abbrev pub invariant-loop-place : goal.invariant-loop-place
invariant-loop-place l = after_loads l.loaded (test_loads l.limit l.walk (drop l.place-index l.places) l.world) ≡ test_loads l.limit l.walk l.places l.initial.world
