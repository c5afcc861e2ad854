use Rattle.std.proofs.Common.{◌≡◌, ◌++◌, drop}
use Rattle.sequence_calls.specs.Sequences.{numbered}
use Rattle.sequence_calls.proofs.sequences.number_all.Given as goal

abbrev pub invariant-loop-i : goal.invariant-loop-i
invariant-loop-i l = l.fn.objects.items ++ numbered 0 l.items ≡ l.objects.items ++ numbered l.i (drop l.i l.items)
