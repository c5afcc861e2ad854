use Rattle.std.proofs.Common.{◌≡◌}
use Rattle.py_world.specs.Imports.{source_paths}
use Rattle.machine_tests.proofs.world.world_of.Given as goal

abbrev pub invariant-loop-source : goal.invariant-loop-source
invariant-loop-source l = source_paths l.world.sources ≡ l.paths.items
