use Rattle.std.proofs.Common.{rules}
use Rattle.machine_immediate.proofs.Numbers.{whole}
use Rattle.machine_immediate.proofs.whole.whole_by.Goals as goal

pub returns-in-Some : goal.returns-in-Some
returns-in-Some c = whole c.args.op c.args.x c.args.y _ (search rules)
