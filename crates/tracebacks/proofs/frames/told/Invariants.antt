use Rattle.std.proofs.Common.{◌≡◌, ◌++◌, drop}
use Rattle.std.specs.Prelude.{map}
use Rattle.tracebacks.specs.Frames as frames
use Rattle.tracebacks.proofs.frames.told.Given as goal

abbrev pub invariant-loop-frame : goal.invariant-loop-frame
invariant-loop-frame l = l.frames.items ++ map (frames.frame_told l.world.sources) (drop l.frame-index l.trace) ≡ map (frames.frame_told l.world.sources) l.trace
