-- What a demand answers, and the nodes that a session goes on at.
use Rattle.std.specs.Prelude.{◌≡◌, ℕ, ◌<◌, length, List, [], Option, None, Some, Result, Ok, Err}
use Rattle.session_rules.specs.World.{Language, Rules}
use Rattle.session_rules.specs.Teardown.{Grant, SessionState}
use Rattle.session_rules.specs.Demand.{Given, Refused, Reply}
use Rattle.session_rules.specs.Session.{with_grant}
use Rattle.fixture_table.specs.Tables.{TableValue}
use Rattle.fixture_table.specs.Tree.{iter_parents}
use Rattle.fixture_instances.specs.declared.items.ItemRef.{ItemRef}
use Rattle.setup_stack.specs.declared.error.SetupError.{SetupError}
use Rattle.setup_stack.specs.declared.error.SetupError.TheVariants.{Told, OutOfMemory}

-- what was given is noted, and its value is the answer; or the exceptions are
abbrev pub IsDemanded : {L : Language} → Rules L → Result L.Value (SetupError L.Thrown) → Reply L → SessionState L → Type 0
IsDemanded {L} rules (Ok value) r t = (grant : Grant L) × (r.answer ≡ Given grant) × (value ≡ grant.value) × (t ≡ with_grant grant r.state)
IsDemanded rules (Err (Told es)) r t = (r.answer ≡ Refused es) × (t ≡ r.state)
IsDemanded rules (Err OutOfMemory) r t = Unit {0}

-- what holds where no memory was wanted
abbrev pub IfAnswered : {V E : Type 0} → Result V (SetupError E) → Type 0 → Type 0
IfAnswered (Ok value) P = P
IfAnswered (Err (Told es)) P = P
IfAnswered (Err OutOfMemory) P = Unit {0}

-- the node of the next item and those above it, or none
abbrev pub next_chain : {V : Type 0} → TableValue → Option (ItemRef V) → List ℕ
next_chain table None = []
next_chain table (Some item) = iter_parents table.nodes item.node

-- the next item, where there is one, stands at a node of the table
abbrev pub IsNode : {V : Type 0} → TableValue → Option (ItemRef V) → Type 0
IsNode table None = Unit {0}
IsNode table (Some item) = item.node < length table.nodes
