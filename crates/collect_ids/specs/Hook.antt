-- THE HOOK THAT MAKES IDS is asked for a value of an argument (pytest's reference, `pytest_make_parametrize_id`; pluggy's documentation,
-- "First result only", "Wrappers"): its implementations are called in hook order up to the first that gives something other than None, inside
-- of the wrappers. Each call, beginning and resumption has the whole step limit.
use Rattle.std.specs.Prelude.{ℕ, List, Option, Some, None, Result, Ok, Err, codes, if◌then◌else◌}
use Rattle.runtest_rules.specs.fixture_calls.Failing.{exception_of, in_heap}
use Rattle.runtest_rules.specs.fixture_calls.Hooks.{hook_begun, hook_called, resumed_by, resumed_with_value}
use Rattle.runtest_rules.specs.fixture_calls.Yields.{fixture_abandoned}
use Rattle.runtest_rules.specs.fixture_calls.declared.failure.Failure.{Failure}
use Rattle.runtest_rules.specs.fixture_calls.declared.hooks.CallEnd.{CallEnd}
use Rattle.runtest_rules.specs.fixture_calls.declared.yields.FixtureEnd.{FixtureEnd}
use Rattle.runtest_rules.specs.fixture_calls.declared.yields.FixtureEnd.TheVariants as end
use Rattle.hook_order.specs.declared.implementation.Impl.{Impl}
use Rattle.py_values.specs.declared.object.Obj.TheVariants as obj
use Rattle.py_values.specs.declared.value.Value.{Value}
use Rattle.runtest_rules.specs.Rules.{call_answer, is_same_value, not_none, wrapper_fault}
use Rattle.session_rules.specs.Hooks.{HookAnswer, HookBeginning, HookEnd, HookGave, HookInner, HookRaised, HookRunner, HookStep, AllValues, AtYield, InnerGave, InnerRaised, OpenRaised, first_call}
use Rattle.test_suite.specs.Hooks.{hook_at}
use Rattle.test_suite.specs.declared.hook.HookTable.{HookTable}
use Rattle.runtest_rules.specs.tracebacks.runner_values.Given.{added_object}
use Rattle.runtest_rules.specs.tracebacks.source_meaning.Meaning.{SourceWorld}
use Rattle.collect_ids.specs.declared.hook.IdFrame.{IdFrame}

abbrev pub hook_step : {A : Type 0} → A × SourceWorld → HookStep SourceWorld A
hook_step x = record { answer = x.0; state = x.1 }

-- a wrapper that stands at its `yield`
abbrev pub id_frame : Impl → ℕ → IdFrame
id_frame which rest = record { which = which; rest = rest }

-- how the call of an implementation ended
abbrev pub id_called : CallEnd × SourceWorld → HookAnswer Value Failure × SourceWorld
id_called x = (call_answer x.0, x.1)

abbrev pub id_raised : Failure × SourceWorld → HookAnswer Value Failure × SourceWorld
id_raised f = (HookRaised f.0, f.1)

abbrev pub open_raised : Failure × SourceWorld → HookBeginning IdFrame Failure × SourceWorld
open_raised f = (OpenRaised f.0, f.1)

-- an exception that a wrapper got and that leaves it goes on as it was
abbrev pub left_by_wrapper : HookInner Value Failure → Failure → Failure
left_by_wrapper AllValues f = f
left_by_wrapper (InnerGave value) f = f
left_by_wrapper (InnerRaised r) f = if is_same_value (exception_of f) (exception_of r) then r else f

-- what a hook call gave, or raised
abbrev pub made_of : HookInner Value Failure → Result (Option Value) Failure
made_of AllValues = Ok None
made_of (InnerGave value) = Ok value
made_of (InnerRaised f) = Err f

abbrev pub made_by : HookEnd SourceWorld Value Failure → Result (Option Value) Failure × SourceWorld
made_by h = (made_of h.outcome, h.state)

module _ (limit : ℕ) (table : HookTable) where
  -- how the beginning of a wrapper ended
  abbrev pub id_opened : Impl → FixtureEnd × SourceWorld → HookBeginning IdFrame Failure × SourceWorld
  id_opened which (end.Yielded v rest, w) = (AtYield (id_frame which rest), w)
  id_opened which (end.Returned v, w) = open_raised (wrapper_fault (hook_at table which.code) (codes "hook wrapper did not yield") w)
  id_opened which (end.Raised f, w) = (OpenRaised f, w)

  -- what remains of a wrapper goes on; no values are gathered
  abbrev pub id_sent : ℕ → HookInner Value Failure → SourceWorld → FixtureEnd × SourceWorld
  id_sent rest AllValues w = resumed_with_value limit rest None w
  id_sent rest (InnerGave value) w = resumed_with_value limit rest value w
  id_sent rest (InnerRaised f) w = resumed_by limit rest f w

  -- how it ended; one that yields again is given up and has raised
  abbrev pub id_resumed : Impl → HookInner Value Failure → FixtureEnd × SourceWorld → HookAnswer Value Failure × SourceWorld
  id_resumed which inner (end.Returned v, w) = (HookGave (not_none v), w)
  id_resumed which inner (end.Raised f, w) = (HookRaised (left_by_wrapper inner f), w)
  id_resumed which inner (end.Yielded v rest, w) = id_raised (wrapper_fault (hook_at table which.code) (codes "hook wrapper yielded twice") (fixture_abandoned rest w))

  -- what is done with an implementation, for a value and the text of the name of its argument
  abbrev pub id_runner : Value → Value → HookRunner SourceWorld Value Failure IdFrame
  id_runner v name =
      record {
        call = λ which w. hook_step (id_called (hook_called limit (hook_at table which.code) (Some v) (Some name) w));
        begin = λ which w. hook_step (id_opened which (hook_begun limit (hook_at table which.code) (Some v) (Some name) w));
        resume = λ frame inner w. hook_step (id_resumed frame.which inner (id_sent frame.rest inner w));
      }

  -- THE HOOK CALL for a value: the name of its argument is a new text
  abbrev pub id_asked : List Impl → Value → Value × SourceWorld → Result (Option Value) Failure × SourceWorld
  id_asked impls v made = made_by (first_call (id_runner v made.0) impls made.1)

  unfoldable pub id_hook_call : List Impl → Value → List ℕ → SourceWorld → Result (Option Value) Failure × SourceWorld
  id_hook_call impls v name w = id_asked impls v (in_heap (added_object (obj.Text name) w.heap) w)
