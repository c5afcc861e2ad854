use Rattle.std.proofs.Common.{◌≡◌, length}
use Rattle.std.specs.Prelude.{IsUtf8}
use Rattle.std.specs.List.{list_any}
use Rattle.edge_io.specs.Files.{folders_of, is_skipped_folder}
use Rattle.edge_io.proofs.files.has_skipped_folder.Given as goal

abbrev pub invariant-loop-folder : goal.invariant-loop-folder
invariant-loop-folder l =
    record {
      text : IsUtf8 l.rest;
      rest : list_any is_skipped_folder (folders_of l.path) ≡ list_any is_skipped_folder (folders_of l.rest);
    }

abbrev pub decreases-loop-folder : goal.decreases-loop-folder
decreases-loop-folder l = length l.rest
