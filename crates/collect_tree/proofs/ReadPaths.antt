-- The paths of files that are read.
use Rattle.std.proofs.Common.{◌≡◌, List, [], ◌∷◌, map, refl}
use Rattle.edge_io.specs.Files.{File, paths_of}
use Rattle.py_load.specs.Reading.{AreRead, ReadFile}
use Rattle.collect_tree.specs.Collection.{read_path}

pub read_paths : (files : List File) (reads : List ReadFile) → AreRead files reads → map read_path reads ≡ paths_of files
read_paths [] [] h = refl
read_paths (f ∷ files) (r ∷ reads) h = λ i. h.0 i ∷ read_paths files reads h.2 i
read_paths [] (r ∷ reads) h = absurd h
read_paths (f ∷ files) [] h = absurd h
