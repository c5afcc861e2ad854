use Rattle.std.proofs.Common.{◌≡◌, ◌++◌, length}
use Rattle.worker_groups.specs.Numbers.{number_groups}
use Rattle.worker_groups.proofs.grouping.grouped.Given as goal

abbrev pub invariant-files : goal.invariant-files
invariant-files l = l.groups.items ++ number_groups l.places l.rest.items ≡ number_groups l.places l.numbers

abbrev pub decreases-files : goal.decreases-files
decreases-files l = length l.rest.items
