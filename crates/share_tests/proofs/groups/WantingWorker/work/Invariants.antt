use Rattle.std.proofs.Common.{◌≡◌}
use Rattle.share_files.specs.Deal.{left}
use Rattle.share_tests.proofs.groups.WantingWorker.work.Given as goal

abbrev pub invariant-loop : goal.invariant-loop
invariant-loop g l = (l.feed ≡ record l.fn.feed { given = l.feed.given }) × (l.self.groups ≡ l.fn.self.groups)

abbrev pub decreases-loop : goal.decreases-loop
decreases-loop g l = left l.feed.limit l.feed.given
