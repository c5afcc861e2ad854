use Rattle.std.proofs.Common.{◌≡◌, drop}
use Rattle.py_tokens.specs.Places.{place_behind}
use Rattle.py_tokens.proofs.place.place_behind.Given as goal

abbrev pub invariant-loop-ch : goal.invariant-loop-ch
invariant-loop-ch l = place_behind l.here (drop l.ch-index l.ch-items) ≡ place_behind l.fn.place l.ch-items
