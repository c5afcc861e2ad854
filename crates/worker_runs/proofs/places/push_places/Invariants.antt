use Rattle.std.proofs.Common.{◌≡◌, ◌++◌, drop}
use Rattle.worker_runs.specs.Places.{worker_places}
use Rattle.worker_runs.proofs.places.push_places.Given as goal

abbrev pub invariant-loop-group : goal.invariant-loop-group
invariant-loop-group l = l.places.items ++ worker_places l.sizes l.worker (drop l.group-index l.taken) ≡ l.fn.places.items ++ worker_places l.sizes l.worker l.taken
