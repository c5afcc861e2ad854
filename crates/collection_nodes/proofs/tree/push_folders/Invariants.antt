use Rattle.std.proofs.Common.{◌≡◌, ◌++◌, map, take}
use Rattle.collection_nodes.specs.Tree.{node_of_folder}
use Rattle.collection_nodes.proofs.tree.push_folders.Given as goal

abbrev pub invariant-loop-number : goal.invariant-loop-number
invariant-loop-number l = l.nodes.items ≡ l.initial.nodes.items ++ map (node_of_folder l.folders) (take l.number l.folders)
