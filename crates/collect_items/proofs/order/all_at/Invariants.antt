use Rattle.std.proofs.Common.{◌≡◌, map, take}
use Rattle.collect_items.specs.Chosen.{number_at}
use Rattle.collect_items.proofs.order.all_at.Given as goal

abbrev pub invariant-loop-place : goal.invariant-loop-place
invariant-loop-place l = l.all.items ≡ map (number_at l.numbers) (take l.place-index l.places)
