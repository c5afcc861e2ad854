-- How many rows a test may have.
use Rattle.std.specs.Prelude.{ℕ}

-- a test has so many rows at most
abbrev pub most_rows : ℕ
most_rows = 65536
