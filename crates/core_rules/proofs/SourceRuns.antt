-- A call of source code, and the load of a source, keep their world.
use Rattle.std.proofs.Common.{◌≡◌, ℕ, ◌-◌, List, [], ◌∷◌, Option, Some, None, refl}
use Rattle.std.specs.Prelude.{slice_get, IsSome, Result, Ok, Err}
use Rattle.run_tree.specs.Todo.{Done, run}
use Rattle.run_tree.specs.Todo as tree
use Rattle.run_tree.specs.Kept as kept
use Rattle.run_tree.proofs.KeptRuns.{run_kept}
use Rattle.py_source.specs.declared.pos.Pos.{Pos}
use Rattle.py_values.specs.declared.end.Raise.{Raise}
use Rattle.py_values.specs.declared.object.FunctionObj.{FunctionObj}
use Rattle.py_values.specs.declared.value.Value.{Value}
use Rattle.py_values.specs.declared.value.Value.TheVariants as val
use Rattle.py_values.specs.Ends.{id_at}
use Rattle.source_meaning.specs.py_world.declared.load.Load.{Load}
use Rattle.source_meaning.specs.py_world.declared.load.Load.TheVariants.{Running, Loaded, Failed}
use Rattle.source_meaning.specs.py_world.declared.trace.TraceFrame.{TraceFrame}
use Rattle.source_meaning.specs.py_world.World.{Locals, FunctionCode}
use Rattle.source_meaning.specs.py_world.Site.{no_call, frame}
use Rattle.source_meaning.specs.py_world.Arguments.{positional_arguments}
use Rattle.source_meaning.specs.py_world.Outcome.{Outcome, Gave, Next, Returned, Broke, Continued, Raised, Exhaustion, Suspension, Request, Rest, call_end}
use Rattle.source_meaning.specs.py_world.Calls.{arguments_for, invoke, body_of}
use Rattle.source_meaning.specs.py_world.Runs.{load_at, coded, source_at, told_by, ended_by, start, with_module, module_place, run_of, function_and, fitting_begun, function_begun, object_begun, begun_by_runner, loading, loaded_first, loaded_by}
use Rattle.source_meaning.specs.Requests.{source_kinds, Script, Function}
use Rattle.source_meaning.specs.Statements.{source_entry, script_body}
use Rattle.source_meaning.specs.Meaning.{SourceWorld, source_semantics, source_call, source_module}
use Rattle.core_rules.specs.Keeps.{IsKeptIn}
use Rattle.core_rules.proofs.Keeping as keep
use Rattle.core_rules.proofs.Keeping.{Closed}
use Rattle.core_rules.proofs.SourceKeeping.{entry_kept as source_entries, script_kept as source_scripts, source_kept}
use Rattle.core_rules.proofs.Worlds.{IsRunFrom, Fresh, run_from, run_from-refl, run_kept_in, spent_kept_in, known_closed, known_spent, put_here}

abbrev pub SourceEnding : Type 0
SourceEnding = tree.Ending Pos (Exhaustion source_kinds) (Request source_kinds) (Outcome source_kinds) (Suspension source_kinds)

-- what holds where a run ends, and so of the world that is told
module _ (Good Told : SourceWorld → Type 0) (Free : List ℕ → Type 0) (closed : Closed Good Free) (over : (x : SourceWorld) → Good x → Told x)
    (out : (budget : ℕ) (x : Exhaustion source_kinds) → Good x.state.world → Told (told_by budget (tree.Spent x)).1) where
  pub ended_kept : (o : Outcome source_kinds) (steps : ℕ) → keep.GoodEnd Good Free closed o → Told (ended_by o steps).1
  ended_kept (Gave v s) steps g = over s.world g
  ended_kept (Next s) steps g = over s.world g
  ended_kept (Returned v s) steps g = over s.world g
  ended_kept (Broke s) steps g = over s.world g
  ended_kept (Continued s) steps g = over s.world g
  ended_kept (Raised e trace s) steps g = over s.world g

  told_kept : (budget : ℕ) (e : SourceEnding) → kept.KeptEnding (keep.GoodSpent Good Free closed) (keep.GoodRequest Good Free closed) (keep.GoodEnd Good Free closed) (keep.GoodPaused Good Free closed) e → Told (told_by budget e).1
  told_kept budget (tree.Ended o left) g = ended_kept o (budget - left) g
  told_kept budget (tree.Spent x) g = out budget x g
  told_kept budget (tree.Frozen f left) g = over f.state.world g

  run_told : (budget : ℕ) (t : Rest source_kinds) → keep.Kept Good Free closed t → Told (run_of source_semantics budget t).1
  run_told budget t h = told_kept budget _ (run_kept _ _ _ _ (body_of source_semantics) (keep.requests_kept Good Free closed source_semantics (source_kept Good Free closed)) budget t h)

  call_begun : (f : Value) (args : List Value) (w : SourceWorld) → Good w → keep.Kept Good Free closed (invoke source_entry f (positional_arguments args) no_call (start w) (λ o. Done (call_end (start w) o)))
  call_begun f args w g = keep.invoke_kept Good Free closed source_entry (source_entries Good Free closed) f (positional_arguments args) no_call (start w) g (λ o. Done (call_end (start w) o)) (λ o d. keep.call_end_kept Good Free closed (start w) o d)

  fitting_kept : (r : Result Locals Raise) (at : List TraceFrame) (f : Value) (args : List Value) (w : SourceWorld) → Good w → keep.Kept Good Free closed (fitting_begun source_semantics r at f args (start w))
  fitting_kept (Ok names) at f args w g = call_begun f args w g
  fitting_kept (Err r) at f args w g = keep.raised_kept Good Free closed r at (start w) g

  function_kept : (c : Option (FunctionCode Function)) (x : FunctionObj) (all : List Value) (f : Value) (args : List Value) (w : SourceWorld) → Good w → keep.Kept Good Free closed (function_begun source_semantics c x all f args (start w))
  function_kept None x all f args w g = call_begun f args w g
  function_kept (Some st) x all f args w g = fitting_kept (arguments_for x (positional_arguments all)) (frame x.path x.line x.name ∷ []) f args w g

  object_kept : (o : Option (FunctionObj × List Value)) (f : Value) (args : List Value) (w : SourceWorld) → Good w → keep.Kept Good Free closed (object_begun source_semantics o f args (start w))
  object_kept (Some x) f args w g = function_kept (slice_get w.codes x.0.code) x.0 x.1 f args w g
  object_kept None f args w g = call_begun f args w g

  pub begun_kept : (f : Value) (args : List Value) (w : SourceWorld) → Good w → keep.Kept Good Free closed (begun_by_runner source_semantics f args (start w))
  begun_kept (val.Ref id) args w g = object_kept (function_and w.heap args (slice_get w.heap id.at)) (val.Ref id) args w g
  begun_kept val.None args w g = call_begun val.None args w g
  begun_kept (val.Bool b) args w g = call_begun (val.Bool b) args w g
  begun_kept (val.Int n) args w g = call_begun (val.Int n) args w g

  call_kept : (f : Value) (args : List Value) (budget : ℕ) (w : SourceWorld) → Good w → Told (source_call f args budget w).1
  call_kept f args budget w g = run_told budget _ (begun_kept f args w g)

  load_kept : (path : List ℕ) (code : Script) (budget : ℕ) (w : SourceWorld) → Free path → Good (with_module path w) → Told (run_of source_semantics budget (loading source_semantics path code w)).1
  load_kept path code budget w f g = run_told budget _ (keep.begun_kept Good Free closed script_body (source_scripts Good Free closed) path code no_call w f g (λ o. Done o) (λ o d. d))

-- CALLS
pub calls_keep : (w : SourceWorld) (f : Value) (args : List Value) (budget : ℕ) → IsKeptIn w (source_call f args budget w).1
calls_keep w f args budget =
    call_kept (IsRunFrom w) (IsKeptIn w) (Fresh w) (run_from w) (run_kept_in w) (λ budget x g. spent_kept_in budget x.trace w x.state.world (run_kept_in w x.state.world g)) f args budget w (run_from-refl w)

-- LOADS
begins_from : (w : SourceWorld) (path : List ℕ) → load_at path w.modules ≡ None → IsRunFrom w (with_module path w)
begins_from w path absent = keep.begins_kept (IsRunFrom w) (Fresh w) (run_from w) script_body (source_scripts (IsRunFrom w) (Fresh w) (run_from w)) path w absent (run_from-refl w)

first_keeps : (w : SourceWorld) (code : Option Script) (path : List ℕ) (budget : ℕ) → load_at path w.modules ≡ None → IsKeptIn w (loaded_first source_semantics code path budget w).1
first_keeps w None path budget absent = run_kept_in w w (run_from-refl w)
first_keeps w (Some code) path budget absent =
    load_kept (IsRunFrom w) (IsKeptIn w) (Fresh w) (run_from w) (run_kept_in w) (λ budget x g. spent_kept_in budget x.trace w x.state.world (run_kept_in w x.state.world g)) path code budget w absent (begins_from w path absent)

load_keeps_by : (w : SourceWorld) (l : Option Load) (path : List ℕ) (budget : ℕ) → load_at path w.modules ≡ l → IsKeptIn w (loaded_by source_semantics l path budget w).1
load_keeps_by w (Some (Running id)) path budget is = run_kept_in w w (run_from-refl w)
load_keeps_by w (Some (Loaded id)) path budget is = run_kept_in w w (run_from-refl w)
load_keeps_by w (Some (Failed e trace)) path budget is = run_kept_in w w (run_from-refl w)
load_keeps_by w None path budget is = first_keeps w (coded (source_at path w.sources)) path budget is

pub loads_keep : (w : SourceWorld) (path : List ℕ) (budget : ℕ) → IsKeptIn w (source_module path budget w).1
loads_keep w path budget = load_keeps_by w (load_at path w.modules) path budget refl

-- a source with code is executed by its first load
first_known : (w : SourceWorld) (code : Script) (path : List ℕ) (budget : ℕ) → IsSome (load_at path (run_of source_semantics budget (loading source_semantics path code w)).1.modules)
first_known w code path budget =
    load_kept (λ x. IsSome (load_at path x.modules)) (λ x. IsSome (load_at path x.modules)) (λ other. Unit {0}) (known_closed path) (λ x g. g) (λ budget x g. known_spent path budget x.trace x.state.world g) path code budget w tt (put_here path (Running (id_at (module_place path w))) w.modules)

known_first : (w : SourceWorld) (o : Option Script) (code : Script) (path : List ℕ) (budget : ℕ) → o ≡ Some code → IsSome (load_at path (loaded_first source_semantics o path budget w).1.modules)
known_first w (Some code) other path budget is = first_known w code path budget
known_first w None other path budget is = absurd cc

known_by : (w : SourceWorld) (l : Option Load) (code : Script) (path : List ℕ) (budget : ℕ) → load_at path w.modules ≡ l → coded (source_at path w.sources) ≡ Some code → IsSome (load_at path (loaded_by source_semantics l path budget w).1.modules)
known_by w (Some (Running id)) code path budget is has = rw is refl
known_by w (Some (Loaded id)) code path budget is has = rw is refl
known_by w (Some (Failed e trace)) code path budget is has = rw is refl
known_by w None code path budget is has = known_first w (coded (source_at path w.sources)) code path budget has

pub loads_execute : (w : SourceWorld) (path : List ℕ) (budget : ℕ) (code : Script) → coded (source_at path w.sources) ≡ Some code → IsSome (load_at path (source_module path budget w).1.modules)
loads_execute w path budget code has = known_by w (load_at path w.modules) code path budget refl has

-- and by no other
again_by : (w : SourceWorld) (l : Option Load) (path : List ℕ) (budget : ℕ) → IsSome l → ((loaded_by source_semantics l path budget w).1 ≡ w) × ((loaded_by source_semantics l path budget w).0.steps ≡ 0)
again_by w (Some (Running id)) path budget h = (refl, refl)
again_by w (Some (Loaded id)) path budget h = (refl, refl)
again_by w (Some (Failed e trace)) path budget h = (refl, refl)
again_by w None path budget h = absurd cc

pub loads_again : (w : SourceWorld) (path : List ℕ) (budget : ℕ) → IsSome (load_at path w.modules) → ((source_module path budget w).1 ≡ w) × ((source_module path budget w).0.steps ≡ 0)
loads_again w path budget h = again_by w (load_at path w.modules) path budget h
