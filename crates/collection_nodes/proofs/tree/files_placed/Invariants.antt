use Rattle.std.proofs.Common.{◌≡◌, ◌++◌, drop}
use Rattle.collection_nodes.specs.Tree.{files_placed}
use Rattle.collection_nodes.proofs.tree.files_placed.Given as goal

abbrev pub invariant-loop-file : goal.invariant-loop-file
invariant-loop-file l = l.placed.items ++ files_placed l.heap l.node l.first (drop l.file-index l.files) ≡ files_placed l.heap l.first_node l.first_class l.files
