use Rattle.std.proofs.Common.{rules}
use Rattle.machine_immediate.proofs.Operators.{told_whole}
use Rattle.machine_immediate.proofs.operations.whole_now.Goals as goal

pub returns-in-Some : goal.returns-in-Some
returns-in-Some c = told_whole c.args.op c.args.m.now.heap c.args.x c.args.y _ c.args.found.now.left (search rules) c.requires
