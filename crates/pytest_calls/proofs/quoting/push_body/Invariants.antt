use Rattle.std.proofs.Common.{◌≡◌, ◌++◌, drop}
use Rattle.py_repr.specs.Words.{escaped_text}
use Rattle.pytest_calls.proofs.quoting.push_body.Given as goal

abbrev pub invariant-loop-c : goal.invariant-loop-c
invariant-loop-c l = l.chars.items ++ escaped_text l.quote (drop l.c-index l.text) ≡ l.fn.chars.items ++ escaped_text l.quote l.text
