use Rattle.std.proofs.Common.{◌≡◌, take}
use Rattle.py_operands.specs.Search.{encoded}
use Rattle.py_operands.proofs.search.encoded.Given as goal

abbrev pub invariant-loop-c : goal.invariant-loop-c
invariant-loop-c l = l.bytes.items ≡ encoded (take l.c-index l.text)
