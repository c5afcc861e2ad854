use Rattle.std.proofs.Common.{◌≡◌, Some, drop}
use Rattle.py_calls.specs.Printing.{plain_style, styled}
use Rattle.py_calls.proofs.style.styled.Given as goal

abbrev pub invariant-loop-arg : goal.invariant-loop-arg
invariant-loop-arg l = styled l.heap (Some plain_style) l.named ≡ styled l.heap (Some l.style) (drop l.arg-index l.named)
