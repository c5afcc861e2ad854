use Rattle.std.proofs.Common.{◌≡◌, drop}
use Rattle.py_bind.specs.Binding.{values_of}
use Rattle.py_bind.proofs.Bindings.{with_front}
use Rattle.py_bind.proofs.binding.values_of.Given as goal

abbrev pub invariant-loop-at : goal.invariant-loop-at
invariant-loop-at l = with_front l.values.items (values_of (drop l.at l.params) (drop l.at l.args) l.named) ≡ values_of l.params l.args l.named
