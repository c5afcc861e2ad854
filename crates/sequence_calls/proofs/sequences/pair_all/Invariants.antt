use Rattle.std.proofs.Common.{◌≡◌, ◌++◌, drop}
use Rattle.sequence_calls.specs.Sequences.{paired}
use Rattle.sequence_calls.proofs.sequences.pair_all.Given as goal

abbrev pub invariant-loop-i : goal.invariant-loop-i
invariant-loop-i l = l.fn.objects.items ++ paired l.xs l.ys ≡ l.objects.items ++ paired (drop l.i l.xs) (drop l.i l.ys)
