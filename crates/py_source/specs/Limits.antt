-- The limit of a source's nesting.
use Rattle.std.specs.Prelude.{ℕ}

-- so many brackets, blocks or constructs may be open at a place
abbrev pub most_levels : ℕ
most_levels = 100
