use Rattle.std.proofs.Common.{◌≡◌, take}
use Rattle.py_values.proofs.key.Key.copied.Given as goal

abbrev pub invariant-loop-atom : goal.invariant-loop-atom
invariant-loop-atom l = l.atoms.items ≡ take l.atom-index l.self
