use Rattle.py_ops.specs.Binary.{binary_of}
use Rattle.machine_immediate.proofs.AtOnces.{now_of_operated}
use Rattle.machine_immediate.proofs.immediate.operate_now.Goals as goal

pub returns-then-branch : goal.returns-then-branch
returns-then-branch c =
    let m = c.args.m.now in
    now_of_operated m (binary_of c.args.op m.heap c.args.x c.args.y) c.args.left c.in_ok-binary_now.field-0 c.binary_now.new.found c.if-branch.true c.in_ok-binary_now.ensures
