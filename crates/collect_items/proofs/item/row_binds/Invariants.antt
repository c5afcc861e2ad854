use Rattle.std.proofs.Common.{◌≡◌, map, take}
use Rattle.collect_items.specs.Items.{bound_number}
use Rattle.collect_items.proofs.item.row_binds.Given as goal

abbrev pub invariant-loop-one : goal.invariant-loop-one
invariant-loop-one l = l.numbers ≡ map bound_number (take l.one-index l.bound)
