use Rattle.std.proofs.Common.{◌≡◌, replicate}
use Rattle.std.specs.Prelude.{vec_len}
use Rattle.collect_items.specs.Nodes.{no_nodes, with_nodes}
use Rattle.collect_items.proofs.nodes.by_place.Given as goal

abbrev pub invariant-loop-place : goal.invariant-loop-place
invariant-loop-place l = with_nodes l.left.items l.all.items ≡ with_nodes l.fn.files.items (replicate l.fn.count no_nodes)

abbrev pub decreases-loop-place : goal.decreases-loop-place
decreases-loop-place l = vec_len l.left
