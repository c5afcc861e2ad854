use Rattle.std.proofs.Common.{rules}
use Rattle.machine_immediate.proofs.Numbers.{answered}
use Rattle.machine_immediate.proofs.whole.compared_by.Goals as goal

pub returns : goal.returns
returns c = answered c.args.op c.args.x c.args.y c.told_by.result (search rules)
