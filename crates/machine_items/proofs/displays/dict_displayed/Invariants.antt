use Rattle.std.proofs.Common.{◌≡◌, ◌*◌, drop}
use Rattle.py_world.specs.Displays as world
use Rattle.machine_items.proofs.displays.dict_displayed.Given as goal

abbrev pub invariant-loop-i : goal.invariant-loop-i
invariant-loop-i l = world.dict_displayed l.heap l.values ≡ world.pairs_stored l.heap l.dict l.steps (drop (2 * l.i) l.values)
