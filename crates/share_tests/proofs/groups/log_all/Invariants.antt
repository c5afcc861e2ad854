use Rattle.std.proofs.Common.{◌≡◌, ◌++◌}
use Rattle.share_files.specs.Deal.{left}
use Rattle.share_tests.proofs.groups.log_all.Given as goal

abbrev pub invariant-loop-group : goal.invariant-loop-group
invariant-loop-group g l =
    (g.F.Feed.origin l.feed ≡ g.F.Feed.origin l.fn.feed)
    × (g.F.Feed.limit l.feed ≡ g.F.Feed.limit l.fn.feed)
    × (l.log.items ≡ l.fn.log.items ++ g.F.Feed.given l.feed)

abbrev pub decreases-loop-group : goal.decreases-loop-group
decreases-loop-group g l = left (g.F.Feed.limit l.feed) (g.F.Feed.given l.feed)
