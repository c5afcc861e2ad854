use Rattle.std.proofs.Common.{◌≡◌, ◌++◌, length, map, drop}
use Rattle.collect_items.specs.Items.{all_items, fault_of_file, files_found, fixtures_with}
use Rattle.collect_items.specs.Nodes.{all_nodes}
use Rattle.collect_items.proofs.found.list_files.Given as goal

abbrev pub invariant-loop-one : goal.invariant-loop-one
invariant-loop-one l =
    let f = fixtures_with l.table l.names l.definitions in
    record {
      items : l.listed.items.items ++ all_items (files_found l.heap f l.node (drop l.one-index l.placed)) ≡ all_items (files_found l.heap f l.first l.placed);
      nodes : l.listed.nodes.items ++ all_nodes (length l.listed.items.items) (files_found l.heap f l.node (drop l.one-index l.placed)) ≡ all_nodes 0 (files_found l.heap f l.first l.placed);
      faults : l.listed.faults.items ++ map fault_of_file (files_found l.heap f l.node (drop l.one-index l.placed)) ≡ map fault_of_file (files_found l.heap f l.first l.placed);
    }
