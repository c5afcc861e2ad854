use Rattle.std.proofs.Common.{◌++◌, arith}
use Rattle.sequence_calls.specs.Sequences.{paired}
use Rattle.sequence_calls.proofs.Pairing.{paired_over}
use Rattle.sequence_calls.proofs.sequences.pair_all.Goals as goal

pub returns-then-i-ys : goal.returns-then-i-ys
returns-then-i-ys c =
    paired_over (c.args.objects.now.items ++ paired c.args.xs.now c.args.ys.now) c.loop-i.objects.items c.args.xs.now c.args.ys.now c.loop-i.i
    (omega arith) c.loop-i.invariant
