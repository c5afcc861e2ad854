use Rattle.std.proofs.Common.{◌≡◌, ◌++◌, drop}
use Rattle.std.specs.List.{flat_map}
use Rattle.fixture_definitions.specs.Definitions.{class_defines}
use Rattle.fixture_definitions.proofs.definitions.push_classes.Given as goal

abbrev pub invariant-loop-at : goal.invariant-loop-at
invariant-loop-at l = l.found.items ++ flat_map (class_defines l.heap l.placed) (drop l.at l.names) ≡ l.initial.found.items ++ flat_map (class_defines l.heap l.placed) l.names
