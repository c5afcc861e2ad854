use Rattle.std.proofs.Common.{vec_len}
use Rattle.fixture_instances.specs.Resting.{AreKeptSpent}
use Rattle.fixture_instances.proofs.live.end_kept.Given as goal

abbrev pub invariant-rest : goal.invariant-rest
invariant-rest g l = AreKeptSpent l.kept.items

abbrev pub decreases-rest : goal.decreases-rest
decreases-rest g l = vec_len l.kept
