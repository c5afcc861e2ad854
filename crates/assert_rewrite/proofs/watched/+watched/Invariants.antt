use Rattle.std.proofs.Common.{take}
use Rattle.assert_rewrite.specs.Lowers.{WatchesEach}
use Rattle.assert_rewrite.proofs.watched.+watched.Given as goal

abbrev pub invariant-watch_each-loop-e : goal.invariant-watch_each-loop-e
invariant-watch_each-loop-e l = WatchesEach l.fn.next (take l.e-index l.all) l.done.items l.next
