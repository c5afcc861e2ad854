use Rattle.std.proofs.Common.{◌≡◌, map}
use Rattle.collect_items.specs.Items.{all_items, fault_of_file}
use Rattle.collect_items.specs.Nodes.{all_nodes}
use Rattle.collect_items.proofs.reads.list_found.Given as goal

abbrev pub invariant-loop-file : goal.invariant-loop-file
invariant-loop-file l =
    record {
      items : l.listed.items.items ≡ all_items l.yielded;
      nodes : l.listed.nodes.items ≡ all_nodes 0 l.yielded;
      faults : l.listed.faults.items ≡ map fault_of_file l.yielded;
    }
