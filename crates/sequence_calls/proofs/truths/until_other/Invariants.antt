use Rattle.std.proofs.Common.{◌≡◌, drop}
use Rattle.sequence_calls.specs.Truths.{until_other}
use Rattle.sequence_calls.proofs.truths.until_other.Given as goal

abbrev pub invariant-loop-i : goal.invariant-loop-i
invariant-loop-i l = until_other l.heap l.wanted 0 l.items ≡ until_other l.heap l.wanted l.i (drop l.i l.items)
