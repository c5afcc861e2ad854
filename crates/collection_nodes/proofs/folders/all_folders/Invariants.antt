use Rattle.std.proofs.Common.{◌≡◌, [], ◌∷◌, map, drop}
use Rattle.std.specs.List.{fold}
use Rattle.collection_nodes.specs.Tree.{file_path, with_folders}
use Rattle.collection_nodes.proofs.folders.all_folders.Given as goal

abbrev pub invariant-loop-file : goal.invariant-loop-file
invariant-loop-file l = fold with_folders l.folders (map (file_path l.walk) (drop l.file-index l.files)) ≡ fold with_folders ([] ∷ []) (map (file_path l.walk) l.files)
