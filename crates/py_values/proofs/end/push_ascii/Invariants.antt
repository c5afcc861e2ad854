use Rattle.std.proofs.Common.{◌≡◌, ◌++◌, take}
use Rattle.py_values.proofs.end.push_ascii.Given as goal

abbrev pub invariant-loop-b : goal.invariant-loop-b
invariant-loop-b l = l.chars.items ≡ l.fn.chars.items ++ take l.b-index l.text
