-- The exceptions that the runner makes, and why a phase of an item did not pass.
use Rattle.std.specs.Prelude.{ℕ, List, [], ◌∷◌, Option, Some}
use Rattle.py_values.specs.Raises.{text_raise, thrown}
use Rattle.py_values.specs.declared.class.ExcClass.{ExcClass}
use Rattle.py_values.specs.declared.class.ExcClass.TheVariants as class
use Rattle.py_values.specs.declared.object.Obj.{Obj}
use Rattle.py_values.specs.declared.value.Value.{Value}
use Rattle.py_world.specs.Runs.{step_limit}
use Rattle.py_world.specs.World.{world_with_heap}
use Rattle.py_world.specs.declared.ended.Thrown.{Thrown}
use Rattle.py_world.specs.declared.trace.TraceFrame.{TraceFrame}
use Rattle.py_machine.specs.source_meaning.Meaning.{SourceWorld}
use Rattle.fixture_calls.specs.declared.failure.Failure.{Failure}
use Rattle.fixture_calls.specs.declared.failure.Failure.TheVariants.{Exception, FixtureFault}

-- the exception of a failure
abbrev pub exception_of : Failure → Value
exception_of (Exception t) = t.exc
exception_of (FixtureFault t text) = t.exc

-- the open calls behind a failure
abbrev pub failure_trace : Failure → List TraceFrame
failure_trace (Exception t) = t.trace
failure_trace (FixtureFault t text) = t.trace

-- a value, and the world with the heap behind it
abbrev pub in_heap : Value × List Obj → SourceWorld → Value × SourceWorld
in_heap made w = (made.0, world_with_heap made.1 w)

-- an exception with these open calls, and the world with the heap behind it
abbrev pub thrown_at : List TraceFrame → Value × SourceWorld → Thrown × SourceWorld
thrown_at trace made = (record { exc = made.0; trace = trace }, made.1)

abbrev pub made_at : List TraceFrame → ExcClass → List ℕ → SourceWorld → Thrown × SourceWorld
made_at trace class text w = thrown_at trace (in_heap (thrown (text_raise class text) w.heap) w)

-- an exception that the runner makes for a function has the place of its `def`
abbrev pub made_for : TraceFrame → ExcClass → List ℕ → SourceWorld → Thrown × SourceWorld
made_for defined class text w = made_at (defined ∷ []) class text w

abbrev pub as_failure : Thrown × SourceWorld → Failure × SourceWorld
as_failure made = (Exception made.0, made.1)

abbrev pub some_failure : Failure × SourceWorld → Option Failure × SourceWorld
some_failure made = (Some made.0, made.1)

-- a call that is exhausted has raised `StepLimit`
abbrev pub exhausted : ℕ → List TraceFrame → SourceWorld → Failure × SourceWorld
exhausted limit trace w = as_failure (made_at trace class.StepLimit (step_limit limit) w)
