use Rattle.std.proofs.Common.{◌≡◌, length, All}
use Rattle.share_files.specs.Work.{IsBlank}
use Rattle.share_files.proofs.run.blank_lists.Given as goal

abbrev pub invariant-loop : goal.invariant-loop
invariant-loop l = (length l.lists.items ≡ l.counter) × All (IsBlank l.counts.groups) l.lists.items
