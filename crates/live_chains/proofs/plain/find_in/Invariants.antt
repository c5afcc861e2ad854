use Rattle.std.proofs.Common.{◌≡◌, drop}
use Rattle.session_types.specs.Live.{find}
use Rattle.live_chains.proofs.plain.find_in.Given as goal

abbrev pub invariant-loop-one : goal.invariant-loop-one
invariant-loop-one l = find l.def l.node (drop l.one-index l.live) ≡ find l.def l.node l.live
