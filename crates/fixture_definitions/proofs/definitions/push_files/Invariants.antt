use Rattle.std.proofs.Common.{◌≡◌, ◌++◌, drop}
use Rattle.std.specs.List.{flat_map}
use Rattle.fixture_definitions.specs.Definitions.{defined_in_file}
use Rattle.fixture_definitions.proofs.definitions.push_files.Given as goal

abbrev pub invariant-loop-one : goal.invariant-loop-one
invariant-loop-one l = l.found.items ++ flat_map (defined_in_file l.heap l.walk) (drop l.one-index l.placed) ≡ l.initial.found.items ++ flat_map (defined_in_file l.heap l.walk) l.placed
