use Rattle.std.proofs.Common.{ap, arith, length}
use Rattle.std.proofs.lemmas.List.{length-map}
use Rattle.collect_items.specs.Items.{parent_of_item}
use Rattle.collect_items.proofs.found.suite_behind.Goals as goal

pub suite_over-requires-clause-nodes : goal.suite_over-requires-clause-nodes
suite_over-requires-clause-nodes c =
    omega (arith, c.in_ok-count.ensures, c.in_ok-table.ensures.nodes, ap length c.in_ok-parents.ensures, length-map c.args.found.now parent_of_item)
