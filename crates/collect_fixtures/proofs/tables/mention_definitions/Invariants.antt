use Rattle.std.proofs.Common.{◌≡◌, drop}
use Rattle.std.specs.List.{fold}
use Rattle.collect_fixtures.specs.Tables.{with_definition}
use Rattle.collect_fixtures.proofs.tables.mention_definitions.Given as goal

abbrev pub invariant-loop-one : goal.invariant-loop-one
invariant-loop-one l = fold with_definition l.names (drop l.one-index l.definitions) ≡ fold with_definition l.initial.names l.definitions
