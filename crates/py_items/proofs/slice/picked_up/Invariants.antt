use Rattle.std.proofs.Common.{◌≡◌, ◌++◌, ◌-◌, ◌<◌, ◌^◌}
use Rattle.py_items.specs.Items.{picked_up}
use Rattle.py_items.proofs.slice.picked_up.Given as goal

abbrev pub invariant-loop : goal.invariant-loop
invariant-loop g l = l.picked.items ++ picked_up l.xs l.at l.step (l.count - l.counter) ≡ picked_up l.xs l.start l.step l.count
