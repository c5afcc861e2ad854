-- The rules go by a table of definitions.
use Rattle.std.specs.Prelude.{◌≡◌, ℕ, ◌<◌, length}
use Rattle.session_rules.specs.World.{Language, Rules}
use Rattle.fixture_table.specs.Nearest.{def_at}
use Rattle.fixture_table.specs.Tables.{TableValue}

-- each definition of the table has its scope there
abbrev pub HasScopes : {L : Language} → Rules L → TableValue → Type 0
HasScopes rules table = (d : ℕ) → d < length table.defs → rules.scope d ≡ (def_at table.defs d).scope
