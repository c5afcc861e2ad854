use Rattle.std.proofs.Common.{◌≡◌, map, take}
use Rattle.collect_items.specs.Nodes.{place_of_item}
use Rattle.collect_items.proofs.found.places_of.Given as goal

abbrev pub invariant-loop-one : goal.invariant-loop-one
invariant-loop-one l = l.places.items ≡ map place_of_item (take l.one-index l.found)
