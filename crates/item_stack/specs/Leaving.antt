-- What is left of an item for the next one.
use Rattle.std.specs.Prelude.{ℕ, ◌<◌, List, [], Option, None, Some, length}
use Rattle.fixture_table.specs.Tables.{TableValue}
use Rattle.fixture_table.specs.Tree.{iter_parents}
use Rattle.session_rules.specs.Session.{finalize_own}
use Rattle.session_rules.specs.Teardown.{SessionState, Step, also_raised, down_all}
use Rattle.session_rules.specs.World.{Language, Rules}
use Rattle.session_types.specs.Live.{not_on}

-- the next item, where there is one, stands at a node of the table
abbrev pub IsNextItem : TableValue → Option ℕ → Type 0
IsNextItem table None = Unit {0}
IsNextItem table (Some node) = node < length table.nodes

-- its node and those above it
abbrev pub chain_for : TableValue → Option ℕ → List ℕ
chain_for table None = []
chain_for table (Some node) = iter_parents table.nodes node

abbrev pub left_behind_own : {L : Language} → Rules L → List ℕ → Step L → Step L
left_behind_own rules chain r = also_raised r.raised (down_all rules (not_on chain r.state.live) (record r.state { given = [] }))

-- the finalizers of the test's own `request`, and then what isn't for these nodes goes down
abbrev pub left_for : {L : Language} → Rules L → List ℕ → SessionState L → Step L
left_for rules chain s = left_behind_own rules chain (finalize_own rules s)
