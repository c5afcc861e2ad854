use Rattle.std.proofs.Common.{◌≡◌, ◌++◌, ◌-◌}
use Rattle.py_items.specs.Items.{picked_down}
use Rattle.py_items.proofs.slice.picked_down.Given as goal

abbrev pub invariant-loop : goal.invariant-loop
invariant-loop g l = l.picked.items ++ picked_down l.xs l.behind l.step (l.count - l.counter) ≡ picked_down l.xs l.start l.step l.count
