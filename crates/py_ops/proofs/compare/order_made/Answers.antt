use Rattle.py_compare.specs.Order.{order_of}
use Rattle.py_operands.specs.Faults.{not_supported}
use Rattle.py_operands.specs.py_kinds.Kinds.{kind_name}
use Rattle.py_ops.proofs.Judging.{placed_within}
use Rattle.py_ops.proofs.compare.order_made.Goals as goal

pub returns : goal.returns
returns c =
    rw (c.order-told.ensures, placed_within (not_supported c.args.op.now (kind_name c.args.heap.now c.args.a) (kind_name c.args.heap.now c.args.b)) c.args.holds c.args.budget (order_of c.args.heap.now c.args.a c.args.b))
    at c.place_made.ensures
