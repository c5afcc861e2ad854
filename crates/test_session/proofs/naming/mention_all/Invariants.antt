use Rattle.std.proofs.Common.{◌≡◌, drop}
use Rattle.std.specs.List.{fold}
use Rattle.test_session.specs.Collections.{with_fixture}
use Rattle.test_session.proofs.naming.mention_all.Given as goal

abbrev pub invariant-loop-fixture : goal.invariant-loop-fixture
invariant-loop-fixture l = fold with_fixture l.names (drop l.fixture-index l.fixtures) ≡ fold with_fixture l.initial.names l.fixtures
