use Rattle.std.proofs.Common.{◌≡◌, ◌++◌, drop}
use Rattle.std.specs.List.{flat_map}
use Rattle.fixture_definitions.specs.Definitions.{defined_in_conftest}
use Rattle.fixture_definitions.proofs.definitions.push_conftests.Given as goal

abbrev pub invariant-loop-one : goal.invariant-loop-one
invariant-loop-one l = l.found.items ++ flat_map (defined_in_conftest l.heap l.walk l.folders) (drop l.one-index l.conftests) ≡ l.initial.found.items ++ flat_map (defined_in_conftest l.heap l.walk l.folders) l.conftests
