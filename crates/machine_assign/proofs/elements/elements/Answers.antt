use Rattle.std.proofs.Common.{◌<◌, rules}
use Rattle.machine_turns.specs.py_world.Targets.{elements_from}
use Rattle.machine_assign.proofs.Taking.{takes_over}
use Rattle.machine_assign.proofs.elements.elements.Goals as goal

pub returns-in-End : goal.returns-in-End
returns-in-End c =
    let l = c.loop-i in
    let within : l.i < c.args.n = search rules in
    takes_over (elements_from c.args.n c.args.v 0 c.args.n c.args.heap.now) c.args.n c.args.v l.i l.heap c.turn.new.heap l.vs.items within l.invariant c.in_ok-x.field-0 c.in_ok-x.ensures.turn c.in-End.is
