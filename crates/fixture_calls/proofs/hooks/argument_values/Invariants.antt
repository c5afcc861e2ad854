use Rattle.std.proofs.Common.{◌≡◌, ◌++◌, drop}
use Rattle.std.specs.Prelude.{map}
use Rattle.fixture_calls.specs.Hooks.{argument_value}
use Rattle.fixture_calls.proofs.hooks.argument_values.Given as goal

abbrev pub invariant-loop-argument : goal.invariant-loop-argument
invariant-loop-argument l = l.values.items ++ map (argument_value l.first l.second) (drop l.argument-index l.arguments) ≡ map (argument_value l.first l.second) l.arguments
