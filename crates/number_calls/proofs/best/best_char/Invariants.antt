use Rattle.std.proofs.Common.{◌≡◌, drop}
use Rattle.number_calls.specs.Best.{best_char}
use Rattle.number_calls.proofs.best.best_char.Given as goal

abbrev pub invariant-loop-c : goal.invariant-loop-c
invariant-loop-c l = best_char l.least l.fn.first l.rest ≡ best_char l.least l.best (drop l.c-index l.rest)
