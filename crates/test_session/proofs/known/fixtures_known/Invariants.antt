use Rattle.std.proofs.Common.{◌≡◌, take}
use Rattle.test_session.specs.Stacks.{fixtures_known}
use Rattle.test_session.proofs.known.fixtures_known.Given as goal

abbrev pub invariant-loop-number : goal.invariant-loop-number
invariant-loop-number l = l.fixtures ≡ fixtures_known l.heap l.codes l.names (take l.number l.table.defs)
