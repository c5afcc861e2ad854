-- THE RULES of a session over sources: what fixtures and tests do to a world (pytest's reference, "Fixtures", "Test running (runtest)
-- hooks"; `_pytest/runner.py`, "basic collect and runtest protocol implementations").
use Rattle.std.specs.Prelude.{ℕ, ◌==◌, Bool, false, ◌||◌, List, [], ◌∷◌, length, Option, Some, None, codes, nat_eq, nat_lt, if◌then◌else◌}
use Rattle.std.specs.List.{filter, starts_with}
use Rattle.cli_words.specs.declared.options.Options.{Options}
use Rattle.hook_order.specs.declared.implementation.Impl.{Impl}
use Rattle.py_values.specs.declared.class.ExcClass.TheVariants as class
use Rattle.py_values.specs.declared.value.Value.{Value}
use Rattle.py_values.specs.declared.value.Value.TheVariants as val
use Rattle.report_rules.specs.Collected.{CapturedEnd}
use Rattle.session_rules.specs.Hooks.{HookAnswer, HookGave, HookMessage, HookRaised, SentRaise, SentValue, SentValues}
use Rattle.session_rules.specs.World.{Rules, Phase, SetUp, Call, Teardown, WorldAnswer, Account, HookArguments, CallOutcome, BodyEnd, NewException, NewRequest, ClosedRequest, BodyOutcome, Returned, Yielded, Raised}
use Rattle.tracebacks.specs.source_meaning.Meaning.{SourceWorld}
use Rattle.fixture_calls.specs.Asking.{finalizers_taken, fixture_request, test_request}
use Rattle.fixture_calls.specs.Calls.{finalizer_called, test_called}
use Rattle.fixture_calls.specs.Failing.{as_failure, exception_of, made_for}
use Rattle.fixture_calls.specs.Hooks.{hook_begun, hook_called, resumed_by, resumed_with_value, resumed_with_values}
use Rattle.fixture_calls.specs.Yields.{did_not_yield, fixture_abandoned, fixture_begun, fixture_resumed, yielded_again}
use Rattle.fixture_calls.specs.declared.failure.Failure.{Failure}
use Rattle.fixture_calls.specs.declared.hooks.CallEnd.{CallEnd}
use Rattle.fixture_calls.specs.declared.hooks.CallEnd.TheVariants as call
use Rattle.fixture_calls.specs.declared.yields.FixtureEnd.{FixtureEnd}
use Rattle.fixture_calls.specs.declared.yields.FixtureEnd.TheVariants as end
use Rattle.test_suite.specs.Hooks.{hook_at, hook_with_code}
use Rattle.test_suite.specs.Suites.{fixture_at, item_with_node}
use Rattle.test_suite.specs.declared.hook.Hook.{Hook}
use Rattle.test_suite.specs.declared.hook.HookTable.{HookTable}
use Rattle.test_suite.specs.declared.item.FixtureParam.{FixtureParam}
use Rattle.test_suite.specs.declared.item.Item.{Item}
use Rattle.test_suite.specs.declared.suite.Suite.{Suite}
use Rattle.runtest_rules.specs.Failures.{fixture_fault, skipped, wrong_arguments}
use Rattle.runtest_rules.specs.Language.{python}
use Rattle.runtest_rules.specs.Objects.{instance_of_item, item_object}
use Rattle.runtest_rules.specs.Phases.{phase_ended}

abbrev pub world_answer : {A : Type 0} → A × SourceWorld → WorldAnswer python A
world_answer x = record { answer = x.0; world = x.1 }

abbrev pub new_exception : Failure × SourceWorld → NewException python
new_exception x = record { thrown = x.0; world = x.1 }

abbrev pub request_answer : Option Value × SourceWorld → NewRequest python
request_answer x = record { request = x.0; world = x.1 }

abbrev pub closed_answer : List Value × SourceWorld → ClosedRequest python
closed_answer x = record { finalizers = x.0; world = x.1 }

abbrev pub after_call : Option Failure × SourceWorld → CallOutcome python
after_call x = record { raised = x.0; world = x.1 }

abbrev pub account : CapturedEnd × SourceWorld → Account python
account x = record { told = x.0; world = x.1 }

abbrev pub body_end_of : FixtureEnd → BodyEnd python
body_end_of (end.Returned v) = Returned v
body_end_of (end.Yielded v n) = Yielded v n
body_end_of (end.Raised f) = Raised f

abbrev pub body_outcome : FixtureEnd × SourceWorld → BodyOutcome python
body_outcome x = record { how = body_end_of x.0; world = x.1 }

-- HOOKS

-- the implementations of the hook of a phase, in hook order
abbrev pub impls_of : HookTable → Phase → List Impl
impls_of table SetUp = table.set_up
impls_of table Call = table.call
impls_of table Teardown = table.teardown

-- an item's file stands in the folder of a hook, or below
abbrev pub is_in_folder : Item → Option Hook → Bool
is_in_folder i None = false
is_in_folder i (Some h) = starts_with nat_eq i.file h.folder

-- an implementation serves the items of its conftest's folder, and of those below; a built-in one serves all
abbrev pub serves : HookTable → Item → Impl → Bool
serves table i which = nat_lt which.registered 4 || is_in_folder i (hook_with_code table which.code)

-- THE HOOKS of a phase that serve an item, in hook order
abbrev pub hooks_for : HookTable → Item → List Impl → List Impl
hooks_for table i impls = filter (serves table i) impls

-- an exception that the runner makes for a hook has the place of its `def`
abbrev pub wrapper_fault : Hook → List ℕ → SourceWorld → Failure × SourceWorld
wrapper_fault h text w = as_failure (made_for h.defined class.RuntimeError text w)

abbrev pub hook_answer : Option Failure → HookAnswer Value Failure
hook_answer (Some f) = HookRaised f
hook_answer None = HookGave None

abbrev pub hook_end_of : Option Failure × SourceWorld → WorldAnswer python (HookAnswer Value Failure)
hook_end_of x = world_answer (hook_answer x.0, x.1)

-- a value, unless it is None
abbrev pub not_none : Value → Option Value
not_none val.None = None
not_none (val.Bool b) = Some (val.Bool b)
not_none (val.Int n) = Some (val.Int n)
not_none (val.Ref id) = Some (val.Ref id)

-- the value that a hook gave is one, unless it is None
abbrev pub call_answer : CallEnd → HookAnswer Value Failure
call_answer (call.Returned v) = HookGave (not_none v)
call_answer (call.Raised f) = HookRaised f

abbrev pub call_end_of : CallEnd × SourceWorld → WorldAnswer python (HookAnswer Value Failure)
call_end_of x = world_answer (call_answer x.0, x.1)

-- the implementation with the number 0 skips; others are hooks of conftests
abbrev pub implemented_for : ℕ → HookTable → Item → HookArguments python → Impl → SourceWorld → WorldAnswer python (HookAnswer Value Failure)
implemented_for limit table i arguments which w =
    if which.registered == 0 then hook_end_of (skipped i w) else call_end_of (hook_called limit (hook_at table which.code) arguments.item arguments.next w)

-- what remains of a wrapper goes on with what it gets at its `yield`
abbrev pub wrapper_resumed : ℕ → ℕ → HookMessage Value Failure → SourceWorld → FixtureEnd × SourceWorld
wrapper_resumed limit rest (SentValues values) w = resumed_with_values limit rest values w
wrapper_resumed limit rest (SentValue value) w = resumed_with_value limit rest value w
wrapper_resumed limit rest (SentRaise f) w = resumed_by limit rest f w

-- exceptions are objects
abbrev pub is_object_at : ℕ → Value → Bool
is_object_at at (val.Ref id) = nat_eq at id.at
is_object_at at val.None = false
is_object_at at (val.Bool b) = false
is_object_at at (val.Int n) = false

abbrev pub is_same_value : Value → Value → Bool
is_same_value (val.Ref id) v = is_object_at id.at v
is_same_value val.None v = false
is_same_value (val.Bool b) v = false
is_same_value (val.Int n) v = false

-- the parameter that stands there for a definition
abbrev pub param_value : List FixtureParam → ℕ → Option Value
param_value [] d = None
param_value (p ∷ ps) d = if d == p.def then Some p.value else param_value ps d

-- THE RULES within a limit of steps, of items by their nodes, and of fixtures by the numbers of their definitions
abbrev pub rules_within : ℕ → Suite → Rules python
rules_within limit suite =
    record {
      depth = length suite.fixtures;
      scope = λ d. (fixture_at suite d).scope;
      yields = λ d. (fixture_at suite d).yields;
      make_instance = λ n w. world_answer (instance_of_item (item_with_node suite n) w);
      make_item = λ n w. world_answer (item_object (item_with_node suite n) w);
      ask = λ n d param w. request_answer (fixture_request (fixture_at suite d) (param_value (item_with_node suite n).params d) w);
      begin = λ n d param own values request w. body_outcome (fixture_begun limit (fixture_at suite d) (item_with_node suite n).bound own values request w);
      did_not_yield = λ d w. new_exception (did_not_yield (fixture_at suite d) w);
      resume = λ rest w. body_outcome (fixture_resumed limit rest w);
      abandon = λ rest w. fixture_abandoned rest w;
      yielded_again = λ d w. new_exception (yielded_again (fixture_at suite d) w);
      close = λ request w. closed_answer (finalizers_taken request w);
      finalize = λ f w. after_call (finalizer_called limit f w);
      fault = λ n w. new_exception (fixture_fault (item_with_node suite n) w);
      ask_test = λ n w. request_answer (test_request (item_with_node suite n) w);
      test = λ n own values request w. after_call (test_called limit (item_with_node suite n) own values request w);
      wrong_arguments = λ n w. new_exception (wrong_arguments (item_with_node suite n) w);
      hooks = λ phase n. hooks_for suite.hooks (item_with_node suite n) (impls_of suite.hooks phase);
      implement = λ phase n arguments which w. implemented_for limit suite.hooks (item_with_node suite n) arguments which w;
      open_wrapper = λ phase n arguments which w. body_outcome (hook_begun limit (hook_at suite.hooks which.code) arguments.item arguments.next w);
      wrapper_did_not_yield = λ which w. new_exception (wrapper_fault (hook_at suite.hooks which.code) (codes "hook wrapper did not yield") w);
      resume_wrapper = λ phase n rest sent w. body_outcome (wrapper_resumed limit rest sent w);
      wrapper_yielded_again = λ which w. new_exception (wrapper_fault (hook_at suite.hooks which.code) (codes "hook wrapper yielded twice") w);
      unless_none = not_none;
      is_same_object = λ e f. is_same_value (exception_of e) (exception_of f);
      end_phase = λ phase n raised w. account (phase_ended phase (item_with_node suite n) raised w);
    }

-- THE RULES of a suite under these options
abbrev pub rules : Options → Suite → Rules python
rules options suite = rules_within options.step_limit suite
