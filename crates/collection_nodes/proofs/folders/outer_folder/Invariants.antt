use Rattle.std.proofs.Common.{◌≡◌, length}
use Rattle.collection_nodes.specs.Tree.{outer_folder}
use Rattle.collection_nodes.proofs.folders.outer_folder.Given as goal

abbrev pub invariant-loop-last : goal.invariant-loop-last
invariant-loop-last l = outer_folder l.rest ≡ outer_folder l.path

abbrev pub decreases-loop-last : goal.decreases-loop-last
decreases-loop-last l = length l.rest
