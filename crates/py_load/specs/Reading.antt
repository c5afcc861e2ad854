-- THE FILES AS THEY ARE READ: each by itself, to its tree or its first fault.
use Rattle.std.specs.Prelude.{◌≡◌, ℕ, List, [], ◌∷◌}
use Rattle.edge_io.specs.Files.{File}
use Rattle.file_source.specs.Sources.{HoldsSource, ReadSource}

-- the path of a file, and its source
abbrev pub ReadFile : Type 0
ReadFile = List ℕ × ReadSource

-- these files, read, in their order
abbrev pub AreRead : List File → List ReadFile → Type 0
AreRead [] [] = Unit {0}
AreRead (file ∷ files) (r ∷ reads) = (r.0 ≡ file.0) × HoldsSource file.1 r.1 × AreRead files reads
AreRead files reads = ⊥
