use Rattle.std.proofs.Common.{◌≡◌, take}
use Rattle.collect_tree.specs.Collection.{paths_at}
use Rattle.collect_tree.proofs.walk.paths_at.Given as goal

abbrev pub invariant-loop-place : goal.invariant-loop-place
invariant-loop-place l = l.paths ≡ paths_at l.walk (take l.place-index l.places)
