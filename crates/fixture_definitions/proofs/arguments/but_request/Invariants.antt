use Rattle.std.proofs.Common.{◌≡◌, ◌++◌, drop}
use Rattle.fixture_definitions.specs.Arguments.{but_request}
use Rattle.fixture_definitions.proofs.arguments.but_request.Given as goal

abbrev pub invariant-loop-name : goal.invariant-loop-name
invariant-loop-name l = l.some ++ but_request (drop l.name-index l.names) ≡ but_request l.names
