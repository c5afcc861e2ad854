use Rattle.std.proofs.Common.{◌≡◌}
use Rattle.std.specs.Hash as fed
use Rattle.std.specs.List.{flat_map, fold}
use Rattle.machine_state.proofs.sources.feed_letters.Given as goal

abbrev pub invariant-loop-c : goal.invariant-loop-c
invariant-loop-c g l = l.state ≡ fold g.H.Hasher.write l.initial.state (flat_map fed.char l.yielded)
