use Rattle.py_ops.specs.Binary.{binary_of}
use Rattle.machine_immediate.proofs.Operators.{operated_now}
use Rattle.machine_immediate.proofs.operations.made_now.Goals as goal

pub returns : goal.returns
returns c = operated_now _ (binary_of c.args.op c.args.m.now.heap c.args.x c.args.y) c.args.left c.given.result c.given.ensures c.in_ok-made.ensures c.requires
