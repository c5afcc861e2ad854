use Rattle.std.proofs.Common.{◌≡◌, drop}
use Rattle.std.specs.List.{fold}
use Rattle.collect_fixtures.specs.Tables.{with_test}
use Rattle.collect_fixtures.proofs.tables.mention_tests.Given as goal

abbrev pub invariant-loop-one : goal.invariant-loop-one
invariant-loop-one l = fold with_test l.names (drop l.one-index l.tests) ≡ fold with_test l.initial.names l.tests
