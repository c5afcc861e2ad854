use Rattle.std.proofs.Common.{◌≡◌, map, take}
use Rattle.collect_items.specs.Items.{parent_of_item}
use Rattle.collect_items.proofs.found.item_parents.Given as goal

abbrev pub invariant-loop-one : goal.invariant-loop-one
invariant-loop-one l = l.parents.items ≡ map parent_of_item (take l.one-index l.found)
