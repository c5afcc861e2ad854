use Rattle.std.proofs.Common.{◌≡◌, ◌+◌, length}
use Rattle.conftest_hooks.specs.Registered.{place_among}
use Rattle.conftest_hooks.proofs.registering.place_among.Given as goal

abbrev pub invariant-others : goal.invariant-others
invariant-others l = (l.place + place_among l.which l.rest ≡ place_among l.which l.others) × (l.place + length l.rest ≡ length l.others)

abbrev pub decreases-others : goal.decreases-others
decreases-others l = length l.rest
