use Rattle.std.proofs.Common.{◌≡◌, drop}
use Rattle.session_types.specs.Live.{instance_by_number}
use Rattle.live_chains.proofs.plain.place_of.Given as goal

abbrev pub invariant-loop-place : goal.invariant-loop-place
invariant-loop-place l = instance_by_number l.number (drop l.place l.live) ≡ instance_by_number l.number l.live
