use Rattle.std.proofs.Common.{ℕ, List, Option, ◌∷◌, ◌++◌, [], length, sym, ap, ◌∙◌}
use Rattle.std.proofs.lemmas.List.{map-append}
use Rattle.collect_items.proofs.Files.{items_behind, nodes_behind}
use Rattle.collect_items.specs.Items.{fault_of_file, items_of_file}
use Rattle.collect_items.specs.Nodes.{all_nodes, nodes_of}
use Rattle.collect_rows.specs.declared.items.FoundItem.{FoundItem}
use Rattle.collect_rows.specs.declared.items.RowsFault.{RowsFault}
use Rattle.collect_words.specs.declared.nodes.FileNodes.{FileNodes}
use Rattle.collect_items.proofs.reads.list_found.Goals as goal

pub loop-file-preserved : goal.loop-file-preserved
loop-file-preserved c =
    let files = c.loop-file.yielded in
    let file = c.in-Some.file in
    let was = c.loop-file.invariant in
    let more = c.in_ok-list_file.ensures in
    record {
      items = more.items ∙ (ap (λ (xs : List FoundItem). xs ++ items_of_file file) was.items ∙ sym (items_behind files file));
      nodes = more.nodes
          ∙ (ap (λ (ns : List (ℕ × FileNodes)). ns ++ (file.file.place, nodes_of (length c.loop-file.listed.items.items) file) ∷ []) was.nodes
          ∙ (ap (λ (xs : List FoundItem). all_nodes 0 files ++ (file.file.place, nodes_of (length xs) file) ∷ []) was.items ∙ sym (nodes_behind files file)));
      faults = more.faults ∙ (ap (λ (fs : List (Option RowsFault)). fs ++ fault_of_file file ∷ []) was.faults ∙ sym (map-append fault_of_file files (file ∷ [])));
    }
