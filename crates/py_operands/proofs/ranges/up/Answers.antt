use Rattle.std.proofs.Common.{arith}
use Rattle.py_operands.proofs.Ranging.{up_none}
use Rattle.py_operands.proofs.ranges.up.Goals as goal

pub returns-in-None : goal.returns-in-None
returns-in-None c = up_none c.args.from c.args.far (omega arith)
