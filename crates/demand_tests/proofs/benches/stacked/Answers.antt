use Rattle.std.proofs.Common.{None, ap}
use Rattle.demand_tests.proofs.Outs.{none_live}
use Rattle.demand_tests.proofs.benches.stacked.Goals as goal

pub returns-clause-frames : goal.returns-clause-frames
returns-clause-frames c =
    none_live c.args.script (record { alloc = c.args.alloc; lines = c.new-lines.result; frames = c.new-frames.result; last = None; before = None }) c.in_ok-stack.stack (ap (λ s. s.live.live) c.in_ok-stack.ensures)
