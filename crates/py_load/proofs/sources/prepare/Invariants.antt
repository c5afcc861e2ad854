use Rattle.std.proofs.Common.{take}
use Rattle.py_load.proofs.Adding.{Added}
use Rattle.py_load.proofs.sources.prepare.Given as goal

abbrev pub invariant-loop-path : goal.invariant-loop-path
invariant-loop-path l = Added l.named (take l.path-index l.pairs) l.fn.world l.world
