use Rattle.std.proofs.Common.{length}
use Rattle.match_pattern.specs.Reading.{UpTo}
use Rattle.match_pattern.proofs.Taking.{Left}
use Rattle.match_pattern.proofs.reading.items_at.Given as goal

abbrev pub invariant-loop-item : goal.invariant-loop-item
invariant-loop-item l = UpTo l.text l.items l.rest × Left l.text l.items l.rest

abbrev pub decreases-loop-item : goal.decreases-loop-item
decreases-loop-item l = length l.rest
