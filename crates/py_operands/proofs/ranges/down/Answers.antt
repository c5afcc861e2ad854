use Rattle.std.proofs.Common.{arith}
use Rattle.py_operands.proofs.Ranging.{down_none}
use Rattle.py_operands.proofs.ranges.down.Goals as goal

pub returns-in-None : goal.returns-in-None
returns-in-None c = down_none c.args.from c.args.far (omega arith)
