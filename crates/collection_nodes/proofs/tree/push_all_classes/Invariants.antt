use Rattle.std.proofs.Common.{◌≡◌, ◌++◌, drop}
use Rattle.std.specs.List.{flat_map}
use Rattle.collection_nodes.specs.Tree.{nodes_of_classes}
use Rattle.collection_nodes.proofs.tree.push_all_classes.Given as goal

abbrev pub invariant-loop-one : goal.invariant-loop-one
invariant-loop-one l = l.nodes.items ++ flat_map (nodes_of_classes l.heap) (drop l.one-index l.placed) ≡ l.initial.nodes.items ++ flat_map (nodes_of_classes l.heap) l.placed
