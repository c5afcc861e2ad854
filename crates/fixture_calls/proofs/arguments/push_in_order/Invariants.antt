use Rattle.std.proofs.Common.{◌≡◌, ◌++◌, drop}
use Rattle.fixture_calls.specs.Arguments.{in_order}
use Rattle.fixture_calls.proofs.arguments.push_in_order.Given as goal

abbrev pub invariant-loop-name : goal.invariant-loop-name
invariant-loop-name l = l.args.items ++ in_order l.bound (drop l.name-index l.names) l.request l.rest ≡ l.fn.args.items ++ in_order l.bound l.names l.request l.values
