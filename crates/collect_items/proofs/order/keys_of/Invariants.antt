use Rattle.std.proofs.Common.{◌≡◌, map, take}
use Rattle.collect_items.specs.Chosen.{item_keys}
use Rattle.collect_items.proofs.order.keys_of.Given as goal

abbrev pub invariant-loop-one : goal.invariant-loop-one
invariant-loop-one l = l.keys.items ≡ map (item_keys l.definitions) (take l.one-index l.found)
