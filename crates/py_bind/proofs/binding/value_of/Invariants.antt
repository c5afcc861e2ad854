use Rattle.std.proofs.Common.{◌≡◌, drop}
use Rattle.py_bind.specs.Binding.{given_values, value_of}
use Rattle.py_bind.proofs.binding.value_of.Given as goal

abbrev pub invariant-loop-argument : goal.invariant-loop-argument
invariant-loop-argument l = value_of l.param.1 (given_values l.param.0 l.value (drop l.argument-index l.named)) ≡ value_of l.param.1 (given_values l.param.0 l.fn.by_place l.named)
