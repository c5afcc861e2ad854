-- The limit of a session's items.
use Rattle.std.specs.Prelude.{ℕ}

-- so many items may be collected
abbrev pub most_items : ℕ
most_items = 65536
