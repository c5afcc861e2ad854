use Rattle.std.proofs.Common.{◌≡◌, ◌++◌, map, drop}
use Rattle.std.specs.List.{filter}
use Rattle.fixture_definitions.specs.Arguments.{is_asked, param_name}
use Rattle.fixture_definitions.proofs.arguments.names_asked.Given as goal

abbrev pub invariant-loop-param : goal.invariant-loop-param
invariant-loop-param l = l.names ++ map param_name (filter is_asked (drop l.param-index l.params)) ≡ map param_name (filter is_asked l.params)
