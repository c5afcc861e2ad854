use Rattle.std.proofs.Common.{◌-◌, ◌∙◌, ap}
use Rattle.py_ops.specs.Unary.{unary_of}
use Rattle.py_values.specs.Ends.{payable}
use Rattle.machine_immediate.proofs.Operators.{operated_now, put_operated}
use Rattle.machine_immediate.proofs.operations.unary_now.Goals as goal

pub returns : goal.returns
returns c =
    let what = unary_of c.args.op c.args.m.now.heap c.args.found.now.value in
    let left = c.args.found.now.left in
    put_operated what left c.given.result c.put.result c.put.new.found
    (operated_now c.made_within.result what left c.given.result c.given.ensures (c.made_within.ensures ∙ ap (payable (left - 1)) c.in_ok-made.ensures) c.if-found-eq0.false) c.put.ensures
