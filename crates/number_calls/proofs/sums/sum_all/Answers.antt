use Rattle.std.proofs.Common.{arith, pos, ◌∙◌}
use Rattle.py_values.specs.declared.value.Value.TheVariants.{Int}
use Rattle.number_calls.specs.Sums.{sum_from}
use Rattle.number_calls.proofs.Summing.{sum_goes, sum_ends}
use Rattle.number_calls.proofs.sums.sum_all.Goals as goal

pub loop-i-preserved : goal.loop-i-preserved
loop-i-preserved c =
    sum_goes c.args.heap.now c.loop-i.total c.in-Sum.next c.args.items.now c.loop-i.i _ (sum_from c.args.heap.now (Int (pos 0)) 0 c.args.items.now)
    (omega arith) c.in-Sum.ensures c.loop-i.invariant

pub returns : goal.returns
returns c =
    c.plain.ensures ∙ sum_ends c.args.heap.now c.loop-i.total c.args.items.now c.loop-i.i (sum_from c.args.heap.now (Int (pos 0)) 0 c.args.items.now)
    (omega arith) (omega arith) c.loop-i.invariant
