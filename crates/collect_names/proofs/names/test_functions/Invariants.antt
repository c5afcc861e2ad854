use Rattle.std.proofs.Common.{◌≡◌, ◌++◌, drop}
use Rattle.std.specs.Prelude.{flat_map}
use Rattle.collect_names.specs.Found.{tests_under}
use Rattle.collect_names.proofs.names.test_functions.Given as goal

abbrev pub invariant-loop-at : goal.invariant-loop-at
invariant-loop-at l = l.found.items ++ flat_map (tests_under l.heap) (drop l.at l.names) ≡ flat_map (tests_under l.heap) l.names
