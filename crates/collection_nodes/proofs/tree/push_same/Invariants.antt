use Rattle.std.proofs.Common.{◌≡◌, ◌++◌, replicate}
use Rattle.collection_nodes.proofs.tree.push_same.Given as goal

abbrev pub invariant-loop : goal.invariant-loop
invariant-loop l = l.nodes.items ≡ l.initial.nodes.items ++ replicate l.counter l.node
