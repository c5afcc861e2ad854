-- Calls of tests and finalizers by the runner, within the step limit.
use Rattle.std.specs.Prelude.{ℕ, List, [], Option, None, Some}
use Rattle.py_values.specs.declared.value.Value.{Value}
use Rattle.py_world.specs.declared.ended.Ended.{Ended}
use Rattle.py_world.specs.declared.ended.Outcome.{Outcome}
use Rattle.py_world.specs.declared.ended.Outcome.TheVariants as out
use Rattle.py_machine.specs.source_meaning.Meaning.{SourceWorld, source_call}
use Rattle.test_suite.specs.declared.item.Item.{Item}
use Rattle.fixture_calls.specs.Arguments.{positional}
use Rattle.fixture_calls.specs.Failing.{exhausted, some_failure}
use Rattle.fixture_calls.specs.declared.failure.Failure.{Failure}
use Rattle.fixture_calls.specs.declared.failure.Failure.TheVariants.{Exception}

-- how a call has ended: why it failed, where it did
abbrev pub call_failure : ℕ → Outcome → SourceWorld → Option Failure × SourceWorld
call_failure limit (out.Value v) w = (None, w)
call_failure limit (out.Raised t) w = (Some (Exception t), w)
call_failure limit (out.Exhausted trace) w = some_failure (exhausted limit trace w)

abbrev pub ended_call : ℕ → Ended × SourceWorld → Option Failure × SourceWorld
ended_call limit e = call_failure limit e.0.out e.1

-- THE CALL of a test, with the instance of its class, what its row binds, these values and this request
unfoldable pub test_called : ℕ → Item → Option Value → List Value → Option Value → SourceWorld → Option Failure × SourceWorld
test_called limit i own values request w = ended_call limit (source_call i.test.function (positional own i.bound i.arguments request values) limit w)

-- THE CALL of a finalizer
unfoldable pub finalizer_called : ℕ → Value → SourceWorld → Option Failure × SourceWorld
finalizer_called limit f w = ended_call limit (source_call f [] limit w)
