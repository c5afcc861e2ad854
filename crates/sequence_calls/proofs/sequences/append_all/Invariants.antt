use Rattle.std.proofs.Common.{◌≡◌, ◌++◌}
use Rattle.sequence_calls.proofs.sequences.append_all.Given as goal

abbrev pub invariant-loop-object : goal.invariant-loop-object
invariant-loop-object l = l.objects.items ≡ l.fn.objects.items ++ l.yielded
