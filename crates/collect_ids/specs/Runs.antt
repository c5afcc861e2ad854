-- A world while the hook is called for a value, as the runner of its hook call.
use Rattle.std.specs.Prelude.{◌≡◌, ℕ, true, List, [], ◌∷◌, Option, Some, None, Result, Ok, Err, map}
use Rattle.std.specs.Borrow.{GName}
use Rattle.runtest_rules.specs.fixture_calls.declared.failure.Failure.{Failure}
use Rattle.runtest_rules.specs.fixture_calls.declared.yields.FixtureEnd.{FixtureEnd}
use Rattle.runtest_rules.specs.fixture_calls.declared.yields.FixtureEnd.TheVariants as end
use Rattle.hook_order.specs.declared.answers.Inner.{Inner}
use Rattle.hook_order.specs.declared.answers.Opened.{Opened}
use Rattle.hook_order.specs.declared.answers.Ran.{Ran}
use Rattle.hook_order.specs.declared.answers.Ran.TheVariants as ran
use Rattle.hook_order.specs.declared.implementation.Impl.{Impl}
use Rattle.py_values.specs.declared.value.Value.{Value}
use Rattle.py_world.specs.Resuming.{is_out}
use Rattle.session_rules.specs.Frames.{AreApart}
use Rattle.session_rules.specs.HookFollows.{HookView, OpenedAs, RanAs, inner_of, ran_of}
use Rattle.session_rules.specs.Hooks.{HookAnswer, HookInner, HookRunner, AllValues, InnerGave, InnerRaised}
use Rattle.test_suite.specs.declared.hook.HookTable.{HookTable}
use Rattle.runtest_rules.specs.tracebacks.source_meaning.Meaning.{SourceWorld}
use Rattle.collect_ids.specs.Hook.{id_runner}
use Rattle.collect_ids.specs.declared.hook.IdFrame.{IdFrame}
use Rattle.collect_ids.specs.declared.hook.IdRun.{IdRun}

-- what stays while it runs
pub record IdSite : Type 0 where
  pub reference : GName
  pub table : HookTable
  pub limit : ℕ
  pub value : Value
  pub name : Value

abbrev pub site_of : IdRun → IdSite
site_of r = record { reference = r.world.ghost_name; table = r.table.now; limit = r.limit; value = r.value; name = r.name }

abbrev pub site_runner : IdSite → HookRunner SourceWorld Value Failure IdFrame
site_runner s = id_runner s.limit s.table s.value s.name

-- a world is read as it is
abbrev pub world_view : HookView SourceWorld Value Failure IdFrame SourceWorld (Unit {0}) Value Failure IdFrame
world_view = record { state = λ w. w; place = λ w. tt; value = λ v. v; exception = λ e. e; frame = λ f. f }

-- a run as its world
abbrev pub run_view : HookView IdRun Value Failure IdFrame SourceWorld IdSite Value Failure IdFrame
run_view = record { state = λ r. r.world.now; place = site_of; value = λ v. v; exception = λ e. e; frame = λ f. f }

abbrev pub ran_told : Ran Value Failure → Option (HookAnswer Value Failure)
ran_told answer = ran_of world_view answer

abbrev pub Runs : IdRun → Type 0
Runs r = Unit {0}

-- the frames of these wrappers
abbrev pub rests : List IdFrame → List ℕ
rests frames = map (λ (f : IdFrame). f.rest) frames

abbrev pub AreOut : List IdFrame → SourceWorld → Type 0
AreOut [] w = Unit {0}
AreOut (frame ∷ frames) w = (is_out frame.rest w ≡ true) × AreOut frames w

-- these wrappers stand at their `yield`: their frames are out, each once
abbrev pub AreWaiting : List IdFrame → SourceWorld → Type 0
AreWaiting frames w = AreOut frames w × AreApart (rests frames)

abbrev pub RunWaits : List IdFrame → IdRun → Type 0
RunWaits frames r = AreWaiting frames r.world.now

-- where a wrapper has yielded, its frame is out
abbrev pub IsOutBehind : FixtureEnd → SourceWorld → Type 0
IsOutBehind (end.Returned v) w = Unit {0}
IsOutBehind (end.Yielded v rest) w = is_out rest w ≡ true
IsOutBehind (end.Raised f) w = Unit {0}

abbrev pub RunCalls : IdRun → Impl → Ran Value Failure → IdRun → Type 0
RunCalls before which answer now = RanAs run_view ((site_runner (site_of before)).call which before.world.now) before answer now × (site_of now ≡ site_of before)

abbrev pub RunBegins : IdRun → Impl → Opened IdFrame Failure → IdRun → Type 0
RunBegins before which answer now = OpenedAs run_view ((site_runner (site_of before)).begin which before.world.now) before answer now × (site_of now ≡ site_of before)

abbrev pub RunResumes : IdRun → IdFrame → Inner Value Failure → Ran Value Failure → IdRun → Type 0
RunResumes before frame given answer now =
    ((inside : HookInner Value Failure) → inner_of run_view given ≡ Some inside → RanAs run_view ((site_runner (site_of before)).resume frame inside before.world.now) before answer now)
    × (site_of now ≡ site_of before)

-- no exception
abbrev pub IsValue : HookInner Value Failure → Type 0
IsValue AllValues = Unit {0}
IsValue (InnerGave value) = Unit {0}
IsValue (InnerRaised e) = ⊥

-- what a hook call answered, but for want of memory
abbrev pub made_told : Ran Value Failure → Option (Result (Option Value) Failure)
made_told (ran.Gave value) = Some (Ok value)
made_told (ran.Raised f) = Some (Err f)
made_told ran.OutOfMemory = None
