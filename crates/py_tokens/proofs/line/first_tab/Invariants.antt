use Rattle.std.proofs.Common.{◌≡◌, length}
use Rattle.py_tokens.specs.Layout.{tab_of, lines_at}
use Rattle.py_tokens.specs.Reading.{first_line}
use Rattle.py_tokens.proofs.line.first_tab.Given as goal

abbrev pub invariant-loop-rest : goal.invariant-loop-rest
invariant-loop-rest l = tab_of (first_line (lines_at l.here l.rest)) ≡ tab_of (first_line (lines_at l.fn.place l.text))

abbrev pub decreases-loop-rest : goal.decreases-loop-rest
decreases-loop-rest l = length l.rest
