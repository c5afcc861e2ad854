-- The limits of values.
use Rattle.std.specs.Prelude.{ℕ}

-- so many levels of a value are shown, compared and taken into a key
abbrev pub most_value_levels : ℕ
most_value_levels = 100

-- the greatest length of a sequence
abbrev pub most_elements : ℕ
most_elements = 65536
