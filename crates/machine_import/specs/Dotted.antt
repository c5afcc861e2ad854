-- Dotted names as they are written.
use Rattle.std.specs.Prelude.{ℕ, List, ◌++◌, codes}

abbrev pub dotted_part : List ℕ → List ℕ
dotted_part name = codes "." ++ name
