use Rattle.std.proofs.Common.{◌≡◌, ◌++◌, drop}
use Rattle.fixture_calls.proofs.failure.copied_trace.Given as goal

abbrev pub invariant-loop-frame : goal.invariant-loop-frame
invariant-loop-frame l = l.frames.items ++ drop l.frame-index l.trace ≡ l.trace
