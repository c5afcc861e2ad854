use Rattle.std.proofs.Common.{◌≡◌, ◌++◌, drop}
use Rattle.std.specs.List.{flat_map}
use Rattle.fixture_definitions.specs.Definitions.{defined_by}
use Rattle.fixture_definitions.proofs.definitions.push_among.Given as goal

abbrev pub invariant-loop-at : goal.invariant-loop-at
invariant-loop-at l = l.found.items ++ flat_map (defined_by l.heap l.node l.in_class) (drop l.at l.names) ≡ l.initial.found.items ++ flat_map (defined_by l.heap l.node l.in_class) l.names
