use Rattle.std.proofs.Common.{ℕ, ◌<◌}
use Rattle.session_types.specs.Members.{IsMember}
use Rattle.session_types.specs.declared.instance.Instance.{Instance}
use Rattle.fixture_tests.proofs.chains.set_up.Given as goal

abbrev pub invariant-loop-order : goal.invariant-loop-order
invariant-loop-order g l = record {
  chains : (j : Instance ℕ) → IsMember j l.both.chains.live → j.order < l.order;
  plain : (j : Instance ℕ) → IsMember j l.both.plain.live → j.order < l.order;
}
