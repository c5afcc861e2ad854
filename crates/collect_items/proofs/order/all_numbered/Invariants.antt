use Rattle.std.proofs.Common.{◌≡◌, map, take}
use Rattle.collect_items.specs.Chosen.{keys_numbered}
use Rattle.collect_items.proofs.order.all_numbered.Given as goal

abbrev pub invariant-loop-number : goal.invariant-loop-number
invariant-loop-number l = l.all.items ≡ map (keys_numbered l.keys) (take l.number-index l.numbers)
