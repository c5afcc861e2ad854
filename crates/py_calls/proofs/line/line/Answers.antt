use Rattle.std.proofs.Common.{◌∙◌, ◌<◌, sym, length, arith, Some, None}
use Rattle.py_calls.proofs.Joining.{line_turn}
use Rattle.py_calls.proofs.line.line.Goals as goal

pub returns-in-Some : goal.returns-in-Some
returns-in-Some c =
    let lt : c.loop-v.v-index < length c.args.args.now = omega arith in
    sym (c.loop-v.invariant
    ∙ line_turn c.args.heap.now c.args.sep.now c.args.end.now c.args.args.now c.loop-v.v-index _ c.loop-v.first
    c.loop-v.chars.items c.push_gap.new.chars.items c.push_value.new.chars.items (Some c.in-Some.raise) lt
    c.in_ok-push_gap.ensures (rw c.in-Some.is at c.in_ok-raise.ensures))

pub loop-v-preserved : goal.loop-v-preserved
loop-v-preserved c =
    let lt : c.loop-v.v-index < length c.args.args.now = omega arith in
    c.loop-v.invariant
    ∙ line_turn c.args.heap.now c.args.sep.now c.args.end.now c.args.args.now c.loop-v.v-index _ c.loop-v.first
    c.loop-v.chars.items c.push_gap.new.chars.items c.push_value.new.chars.items None lt
    c.in_ok-push_gap.ensures (rw c.in_default.is at c.in_ok-raise.ensures)
