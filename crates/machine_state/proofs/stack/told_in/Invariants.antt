use Rattle.std.proofs.Common.{◌≡◌, drop, map}
use Rattle.machine_state.specs.Frames.{handled_exception}
use Rattle.machine_state.proofs.stack.told_in.Given as goal

abbrev pub invariant-loop-frame : goal.invariant-loop-frame
invariant-loop-frame l = handled_exception (map (λ f. f.now) (drop l.frame-index l.frames)) ≡ handled_exception (map (λ f. f.now) l.frames)
