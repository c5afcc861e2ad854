use Rattle.std.proofs.Common.{◌≡◌, replicate}
use Rattle.collect_items.specs.Nodes.{no_nodes}
use Rattle.collect_items.proofs.nodes.without_nodes.Given as goal

abbrev pub invariant-loop : goal.invariant-loop
invariant-loop l = l.all.items ≡ replicate l.counter no_nodes
