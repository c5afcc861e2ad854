-- The functions of hooks (pytest's reference, "Test running (runtest) hooks"; pluggy's documentation, "Wrappers").
use Rattle.std.specs.Prelude.{ℕ, List, Option, Some, None, map}
use Rattle.py_machine.specs.runner_values.Given.{added_object}
use Rattle.py_machine.specs.source_meaning.Meaning.{SourceWorld, source_begin, source_call, source_resume}
use Rattle.py_values.specs.declared.object.Obj.TheVariants as obj
use Rattle.py_values.specs.declared.value.Value.{Value}
use Rattle.py_values.specs.declared.value.Value.TheVariants as val
use Rattle.py_world.specs.Resuming.{Sent, SentThrow, SentValue}
use Rattle.py_world.specs.declared.ended.Ended.{Ended}
use Rattle.py_world.specs.declared.ended.Outcome.{Outcome}
use Rattle.py_world.specs.declared.ended.Outcome.TheVariants as out
use Rattle.py_world.specs.declared.ended.Thrown.{Thrown}
use Rattle.test_suite.specs.declared.hook.Hook.{Hook}
use Rattle.test_suite.specs.declared.hook.HookArgument.{HookArgument}
use Rattle.test_suite.specs.declared.hook.HookArgument.TheVariants as argument
use Rattle.fixture_calls.specs.Failing.{exhausted, in_heap}
use Rattle.fixture_calls.specs.Yields.{body_ended}
use Rattle.fixture_calls.specs.declared.failure.Failure.{Failure}
use Rattle.fixture_calls.specs.declared.failure.Failure.TheVariants.{Exception, FixtureFault}
use Rattle.fixture_calls.specs.declared.hooks.CallEnd.{CallEnd}
use Rattle.fixture_calls.specs.declared.hooks.CallEnd.TheVariants as call
use Rattle.fixture_calls.specs.declared.yields.FixtureEnd.{FixtureEnd}

-- what stands for a value that isn't there
abbrev pub or_none : Option Value → Value
or_none (Some v) = v
or_none None = val.None

-- the value of an argument, with those of the two that its hook has, where they are there
abbrev pub argument_value : Option Value → Option Value → HookArgument → Value
argument_value first second argument.First = or_none first
argument_value first second argument.Second = or_none second

-- the values of a hook's arguments, in their order
abbrev pub hook_values : Option Value → Option Value → Hook → List Value
hook_values first second h = map (argument_value first second) h.arguments

abbrev pub raised_call : Failure × SourceWorld → CallEnd × SourceWorld
raised_call f = (call.Raised f.0, f.1)

-- how a call has ended: with a value, or why it failed
abbrev pub call_end : ℕ → Outcome → SourceWorld → CallEnd × SourceWorld
call_end limit (out.Value v) w = (call.Returned v, w)
call_end limit (out.Raised t) w = (call.Raised (Exception t), w)
call_end limit (out.Exhausted trace) w = raised_call (exhausted limit trace w)

abbrev pub call_ended : ℕ → Ended × SourceWorld → CallEnd × SourceWorld
call_ended limit e = call_end limit e.0.out e.1

-- A HOOK'S FUNCTION is called within the step limit, with these two values
unfoldable pub hook_called : ℕ → Hook → Option Value → Option Value → SourceWorld → CallEnd × SourceWorld
hook_called limit h first second w = call_ended limit (source_call h.function (hook_values first second h) limit w)

-- A WRAPPER'S FUNCTION is called likewise; one that yields stops there
unfoldable pub hook_begun : ℕ → Hook → Option Value → Option Value → SourceWorld → FixtureEnd × SourceWorld
hook_begun limit h first second w = body_ended limit (source_begin h.function (hook_values first second h) limit w)

-- WHAT REMAINS OF A WRAPPER goes on within the step limit, with what it is sent
unfoldable pub hook_resumed : ℕ → ℕ → Sent → SourceWorld → FixtureEnd × SourceWorld
hook_resumed limit n sent w = body_ended limit (source_resume n sent limit w)

abbrev pub resumed_with : ℕ → ℕ → Value × SourceWorld → FixtureEnd × SourceWorld
resumed_with limit n made = hook_resumed limit n (SentValue made.0) made.1

-- with the values that were gathered, as a new list
abbrev pub resumed_with_values : ℕ → ℕ → List Value → SourceWorld → FixtureEnd × SourceWorld
resumed_with_values limit n values w = resumed_with limit n (in_heap (added_object (obj.List values) w.heap) w)

-- with what another wrapper gave
abbrev pub resumed_with_value : ℕ → ℕ → Option Value → SourceWorld → FixtureEnd × SourceWorld
resumed_with_value limit n value w = hook_resumed limit n (SentValue (or_none value)) w

abbrev pub failure_thrown : Failure → Thrown
failure_thrown (Exception t) = t
failure_thrown (FixtureFault t text) = t

-- by an exception, which is raised at its `yield`
abbrev pub resumed_by : ℕ → ℕ → Failure → SourceWorld → FixtureEnd × SourceWorld
resumed_by limit n failure w = hook_resumed limit n (SentThrow (failure_thrown failure)) w
