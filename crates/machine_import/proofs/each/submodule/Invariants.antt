use Rattle.std.proofs.Common.{◌≡◌, take}
use Rattle.machine_import.proofs.each.submodule.Given as goal

abbrev pub invariant-loop-part : goal.invariant-loop-part
invariant-loop-part l = l.all.items ≡ take l.part-index l.dotted
