use Rattle.std.proofs.Common.{◌≡◌, length, All}
use Rattle.share_tests.proofs.groups.loggers.Given as goal

abbrev pub invariant-loop : goal.invariant-loop
invariant-loop l = (length l.all.items ≡ l.counter) × All (λ w. w.groups ≡ l.groups) l.all.items
