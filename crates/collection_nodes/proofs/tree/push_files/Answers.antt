use Rattle.std.proofs.Common.{arith}
use Rattle.collection_nodes.specs.Tree.{node_of_file}
use Rattle.collection_nodes.proofs.Steps.{map_at}
use Rattle.collection_nodes.proofs.tree.push_files.Goals as goal

pub loop-one-preserved : goal.loop-one-preserved
loop-one-preserved c =
    map_at (node_of_file c.args.walk.now c.args.folders.now) c.args.placed.now c.loop-one.one-index _ _ _ _ (omega arith) c.loop-one.invariant c.in_ok-push_file.ensures
