-- What demands and teardowns of a stack answer.
use Rattle.std.specs.Prelude.{◌≡◌, List, Result, Ok, Err, map}
use Rattle.fixture_calls.specs.Hooks.{failure_thrown}
use Rattle.fixture_calls.specs.declared.failure.Failure.{Failure}
use Rattle.py_values.specs.declared.value.Value.{Value}
use Rattle.py_world.specs.declared.ended.Thrown.{Thrown}
use Rattle.run_items.specs.runtest_rules.Language.{python}
use Rattle.session_rules.specs.Demand.{Reply}
use Rattle.session_rules.specs.Teardown.{SessionState, Step, session_step}
use Rattle.session_rules.specs.World.{Rules}
use Rattle.setup_stack.specs.SetUps.{IsDemanded}
use Rattle.setup_stack.specs.declared.error.SetupError as held
use Rattle.setup_stack.specs.declared.error.SetupError.TheVariants as held_error
use Rattle.test_session.specs.declared.error.SetupError.{SetupError}
use Rattle.test_session.specs.declared.error.SetupError.TheVariants.{Told, OutOfMemory}

-- failures are told by their exceptions
abbrev pub IsTold : Result Value (held.SetupError Failure) → Result Value SetupError → Type 0
IsTold answer (Ok v) = answer ≡ Ok v
IsTold answer (Err (Told thrown)) = (raised : List Failure) × (answer ≡ Err (held_error.Told raised)) × (thrown ≡ map failure_thrown raised)
IsTold answer (Err OutOfMemory) = Unit {0}

-- A DEMAND'S ANSWER: what was given is noted and its value is the answer, or the exceptions of its failures are
abbrev pub IsAnswered : Rules python → Result Value SetupError → Reply python → SessionState python → Type 0
IsAnswered rules (Ok v) r t = IsDemanded rules (Ok v) r t
IsAnswered rules (Err (Told thrown)) r t = (raised : List Failure) × (thrown ≡ map failure_thrown raised) × IsDemanded rules (Err (held_error.Told raised)) r t
IsAnswered rules (Err OutOfMemory) r t = Unit {0}

-- where memory wasn't refused
abbrev pub IfTold : Result Value SetupError → Type 0 → Type 0
IfTold (Ok v) P = P
IfTold (Err (Told thrown)) P = P
IfTold (Err OutOfMemory) P = Unit {0}

-- A TEARDOWN'S ANSWER: the exceptions of what it raised
abbrev pub IsTornDown : List Thrown → SessionState python → Step python → Type 0
IsTornDown thrown t r = (raised : List Failure) × (thrown ≡ map failure_thrown raised) × (session_step raised t ≡ r)
