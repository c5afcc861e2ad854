use Rattle.std.proofs.Common.{arith}
use Rattle.machine_import.proofs.Walking.{last_own, last_same}
use Rattle.machine_import.proofs.walk.last_value.Goals as goal

pub returns-then-from-dotted : goal.returns-then-from-dotted
returns-then-from-dotted c = last_own c.args.dotted.now c.args.from c.args.last c.built_in.result (omega (arith, c.if-from-dotted.true)) c.built_in.ensures

pub returns-else-from-dotted : goal.returns-else-from-dotted
returns-else-from-dotted c = last_same c.args.dotted.now c.args.from c.args.last (omega (arith, c.if-from-dotted.false))
