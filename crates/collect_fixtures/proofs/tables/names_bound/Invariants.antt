use Rattle.std.proofs.Common.{◌≡◌, ◌++◌, drop}
use Rattle.std.specs.List.{flat_map}
use Rattle.collect_fixtures.specs.Tables.{parametrized_names}
use Rattle.collect_fixtures.proofs.tables.names_bound.Given as goal

abbrev pub invariant-loop-one : goal.invariant-loop-one
invariant-loop-one l = l.names ++ flat_map parametrized_names (drop l.one-index l.test.parametrized) ≡ flat_map parametrized_names l.test.parametrized
