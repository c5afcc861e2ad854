use Rattle.std.proofs.Common.{◌≡◌, ◌++◌, map, drop}
use Rattle.collection_nodes.specs.Tree.{node_of_file}
use Rattle.collection_nodes.proofs.tree.push_files.Given as goal

abbrev pub invariant-loop-one : goal.invariant-loop-one
invariant-loop-one l = l.nodes.items ++ map (node_of_file l.walk l.folders) (drop l.one-index l.placed) ≡ l.initial.nodes.items ++ map (node_of_file l.walk l.folders) l.placed
