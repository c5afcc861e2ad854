use Rattle.std.proofs.Common.{◌≡◌, ◌++◌, map}
use Rattle.collect_rows.specs.FileItems.{found_item}
use Rattle.collect_rows.proofs.items.push_items.Given as goal

abbrev pub invariant-loop-row : goal.invariant-loop-row
invariant-loop-row l = l.found ≡ l.initial.found ++ map (found_item l.test) l.yielded
