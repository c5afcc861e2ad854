-- The calls and the loads of modules that the runner makes, from their beginning to their end.
use Rattle.std.specs.Prelude.{ℕ, ◌-◌, Bool, true, false, List, [], ◌∷◌, ◌++◌, length, map, Option, Some, None, Result, Ok, Err, codes, if◌then◌else◌, slice_get}
use Rattle.std.specs.Fmt.{decimal}
use Rattle.std.specs.List.{list_any}
use Rattle.std.specs.Map.{lookup}
use Rattle.run_tree.specs.Todo.{Done, run}
use Rattle.run_tree.specs.Todo as tree
use Rattle.py_source.specs.declared.pos.Pos.{Pos}
use Rattle.py_values.specs.declared.class.ExcClass.TheVariants.{StepLimit}
use Rattle.py_values.specs.declared.end.Raise.{Raise}
use Rattle.py_values.specs.declared.object.FunctionObj.{FunctionObj}
use Rattle.py_values.specs.declared.object.Obj.{Obj}
use Rattle.py_values.specs.declared.object.Obj.TheVariants as obj
use Rattle.py_values.specs.declared.value.Value.{Value}
use Rattle.py_values.specs.declared.value.Value.TheVariants as val
use Rattle.py_values.specs.Ends.{id_at}
use Rattle.py_values.specs.Names.{name_eq}
use Rattle.py_values.specs.Raises.{text_raise, thrown}
use Rattle.py_world.specs.declared.ended.Ended.{Ended}
use Rattle.py_world.specs.declared.ended.Outcome.TheVariants as out
use Rattle.py_world.specs.declared.load.Load.{Load}
use Rattle.py_world.specs.declared.load.Load.TheVariants.{Running, Loaded, Failed}
use Rattle.py_world.specs.declared.trace.TraceFrame.{TraceFrame}
use Rattle.py_world.specs.World.{Kinds, World, CallState, Locals, CodedSource, CodeOrFault, Code, Fault, FunctionCode, state, with_world, world_with_heap, world_with_modules}
use Rattle.py_world.specs.Site.{Around, no_call, around_of, Scene, InModule, frame}
use Rattle.py_world.specs.Arguments.{positional_arguments}
use Rattle.py_world.specs.ModuleNames.{module_name, module_object}
use Rattle.py_world.specs.Outcome.{Outcome, Gave, Next, Returned, Broke, Continued, Raised, Exhaustion, Suspension, Rest, Continuation, Denotation, Body, Request, raised, call_end}
use Rattle.py_world.specs.Calls.{Meaning, arguments_for, function_of_object, invoke, body_of}

-- what is told of an end, and the world behind it
abbrev pub Told : (K : Kinds) → Type 0
Told K = Ended × World K

-- modules by path
abbrev pub load_at : List ℕ → List (List ℕ × Load) → Option Load
load_at path modules = lookup (name_eq path) modules

abbrev pub with_load : List ℕ → Load → List (List ℕ × Load) → List (List ℕ × Load)
with_load path load [] = (path, load) ∷ []
with_load path load (m ∷ ms) = if name_eq path m.0 then (m.0, load) ∷ ms else m ∷ with_load path load ms

abbrev pub is_running : List ℕ × Load → Bool
is_running (path, Running id) = true
is_running (path, Loaded id) = false
is_running (path, Failed exc trace) = false

abbrev pub failed : Value → List TraceFrame → List ℕ × Load → List ℕ × Load
failed exc trace (path, Running id) = (path, Failed exc trace)
failed exc trace (path, Loaded id) = (path, Loaded id)
failed exc trace (path, Failed other before) = (path, Failed other before)

abbrev pub step_limit : ℕ → List ℕ
step_limit budget = codes "step limit of " ++ (decimal budget ++ codes " reached")

-- the scene of a module's body
abbrev pub module_scene : List ℕ → ℕ → Around → Scene
module_scene path id a = record { around = a; path = path; name = codes "<module>"; home = id; own = InModule }

-- the heap in which a module begins, but for the module: the text of its name is there
abbrev pub naming_heap : List ℕ → List Obj → List Obj
naming_heap path heap = heap ++ obj.Text (module_name path) ∷ []

module _ {M : Type 0} where
  -- the code of a path
  abbrev pub code_of : CodeOrFault M → Option M
  code_of (Code m) = Some m
  code_of (Fault f) = None

  abbrev pub source_at : List ℕ → List (CodedSource M) → Option (CodedSource M)
  source_at path [] = None
  source_at path (x ∷ xs) = if name_eq path x.path then Some x else source_at path xs

  abbrev pub coded : Option (CodedSource M) → Option M
  coded (Some x) = code_of x.code
  coded None = None

module _ {K : Kinds} where
  abbrev pub ended_value : Value → ℕ → World K → Told K
  ended_value v steps w = (record { out = out.Value v; steps = steps }, w)

  abbrev pub ended_raised : Value → List TraceFrame → ℕ → World K → Told K
  ended_raised exc trace steps w = (record { out = out.Raised (record { exc = exc; trace = trace }); steps = steps }, w)

  -- the modules that were running have raised StepLimit
  abbrev pub fail_running : Value × List Obj → List TraceFrame → World K → World K
  fail_running e trace w = world_with_modules (map (failed e.0 trace) w.modules) (world_with_heap e.1 w)

  abbrev pub out_of_steps : ℕ → List TraceFrame → World K → World K
  out_of_steps budget trace w =
      if list_any is_running w.modules
      then fail_running (thrown (text_raise StepLimit (step_limit budget)) w.heap) trace w
      else w

  abbrev pub ended_spent : ℕ → Exhaustion K → Told K
  ended_spent budget x = (record { out = out.Exhausted x.trace; steps = budget }, out_of_steps budget x.trace x.state.world)

  -- a call has no other ends than a value and an exception
  abbrev pub ended_by : Outcome K → ℕ → Told K
  ended_by (Gave v s) steps = ended_value v steps s.world
  ended_by (Raised exc trace s) steps = ended_raised exc trace steps s.world
  ended_by (Next s) steps = ended_value val.None steps s.world
  ended_by (Returned v s) steps = ended_value v steps s.world
  ended_by (Broke s) steps = ended_value val.None steps s.world
  ended_by (Continued s) steps = ended_value val.None steps s.world

  abbrev pub told_by : ℕ → tree.Ending Pos (Exhaustion K) (Request K) (Outcome K) (Suspension K) → Told K
  told_by budget (tree.Ended o left) = ended_by o (budget - left)
  told_by budget (tree.Spent x) = ended_spent budget x
  told_by budget (tree.Frozen f left) = ended_value f.value (budget - left) f.state.world

  abbrev pub start : World K → CallState K
  start w = state [] [] w

  -- where the object of a module will stand
  abbrev pub module_place : List ℕ → World K → ℕ
  module_place path w = length (naming_heap path w.heap)

  -- a world in which a module begins, whose name `__name__` is bound
  abbrev pub with_module : List ℕ → World K → World K
  with_module path w =
      world_with_modules (with_load path (Running (id_at (module_place path w))) w.modules)
      (world_with_heap (naming_heap path w.heap ++ module_object path (length w.heap) ∷ []) w)

  abbrev pub with_module_load : List ℕ → Load → CallState K → CallState K
  with_module_load path load s = with_world (world_with_modules (with_load path load s.world.modules) s.world) s

  -- how a module's load ends
  abbrev pub module_end : List ℕ → ℕ → Outcome K → Outcome K
  module_end path id (Raised exc trace s) = Raised exc trace (with_module_load path (Failed exc trace) s)
  module_end path id (Gave v s) = Gave (val.Ref (id_at id)) (with_module_load path (Loaded (id_at id)) s)
  module_end path id (Next s) = Gave (val.Ref (id_at id)) (with_module_load path (Loaded (id_at id)) s)
  module_end path id (Returned v s) = Gave (val.Ref (id_at id)) (with_module_load path (Loaded (id_at id)) s)
  module_end path id (Broke s) = Gave (val.Ref (id_at id)) (with_module_load path (Loaded (id_at id)) s)
  module_end path id (Continued s) = Gave (val.Ref (id_at id)) (with_module_load path (Loaded (id_at id)) s)

-- the function that a value is, or whose method it is, with the arguments of a call
abbrev pub with_args : List Value → Option FunctionObj → Option (FunctionObj × List Value)
with_args args (Some f) = Some (f, args)
with_args args None = None

abbrev pub function_and : List Obj → List Value → Option Obj → Option (FunctionObj × List Value)
function_and heap args (Some (obj.Function f)) = Some (f, args)
function_and heap args (Some (obj.Method m)) = with_args (m.receiver ∷ args) (function_of_object (slice_get heap m.function.at))
function_and heap args _ = None

module _ {K : Kinds} (body : K.script → Body K) where
  -- a module is executed, in a state without names
  abbrev pub executed : List ℕ → K.script → Around → World K → Continuation K → Rest K
  executed path code a w k =
      body code (module_scene path (module_place path w) a) (start (with_module path w)) (λ o. k (module_end path (module_place path w) o))

  -- A LOAD IN MID-RUN (Language Reference, the import system), which costs no step: one that runs is given as it is, one that has
  -- failed raises again; missing is what a path without code does
  abbrev pub first_load : Option K.script → List ℕ → Denotation K → Denotation K
  first_load None path missing p s k = missing p s k
  first_load (Some code) path missing p s k = executed path code (around_of p) s.world (λ o. k (call_end s o))

  abbrev pub load_by : Option Load → List ℕ → Denotation K → Denotation K
  load_by (Some (Running id)) path missing p s k = k (Gave (val.Ref id) s)
  load_by (Some (Loaded id)) path missing p s k = k (Gave (val.Ref id) s)
  load_by (Some (Failed exc trace)) path missing p s k = k (Raised exc trace s)
  load_by None path missing p s k = first_load (coded (source_at path s.world.sources)) path missing p s k

  abbrev pub load_part : List ℕ → Denotation K → Denotation K
  load_part path missing p s k = load_by (load_at path s.world.modules) path missing p s k

module _ {K : Kinds} (meaning : Meaning K) where
  abbrev pub run_of : ℕ → Rest K → Told K
  run_of budget tree = told_by budget (run (body_of meaning) budget tree).1

  -- the runner's own call: an error that it makes has the one frame of the function, at its `def`, and takes no step
  abbrev pub fitting_begun : Result Locals Raise → List TraceFrame → Value → List Value → CallState K → Rest K
  fitting_begun (Ok names) at f args s = invoke meaning.entry f (positional_arguments args) no_call s (λ o. Done (call_end s o))
  fitting_begun (Err r) at f args s = Done (raised r at s)

  abbrev pub function_begun : Option (FunctionCode K.code) → FunctionObj → List Value → Value → List Value → CallState K → Rest K
  function_begun None x all f args s = invoke meaning.entry f (positional_arguments args) no_call s (λ o. Done (call_end s o))
  function_begun (Some st) x all f args s = fitting_begun (arguments_for x (positional_arguments all)) (frame x.path x.line x.name ∷ []) f args s

  abbrev pub object_begun : Option (FunctionObj × List Value) → Value → List Value → CallState K → Rest K
  object_begun (Some x) f args s = function_begun (slice_get s.world.codes x.0.code) x.0 x.1 f args s
  object_begun None f args s = invoke meaning.entry f (positional_arguments args) no_call s (λ o. Done (call_end s o))

  abbrev pub begun_by_runner : Value → List Value → CallState K → Rest K
  begun_by_runner (val.Ref id) args s = object_begun (function_and s.world.heap args (slice_get s.world.heap id.at)) (val.Ref id) args s
  begun_by_runner val.None args s = invoke meaning.entry val.None (positional_arguments args) no_call s (λ o. Done (call_end s o))
  begun_by_runner (val.Bool b) args s = invoke meaning.entry (val.Bool b) (positional_arguments args) no_call s (λ o. Done (call_end s o))
  begun_by_runner (val.Int n) args s = invoke meaning.entry (val.Int n) (positional_arguments args) no_call s (λ o. Done (call_end s o))

  -- A CALL BY THE RUNNER
  abbrev pub call_of : Value → List Value → ℕ → World K → Told K
  call_of f args budget w = run_of budget (begun_by_runner f args (start w))

  -- a module that is loaded for the first time
  abbrev pub loading : List ℕ → K.script → World K → Rest K
  loading path code w = executed meaning.body path code no_call w (λ o. Done o)

  -- nothing is loaded where there is no code
  abbrev pub loaded_first : Option K.script → List ℕ → ℕ → World K → Told K
  loaded_first None path budget w = ended_value val.None 0 w
  loaded_first (Some code) path budget w = run_of budget (loading path code w)

  abbrev pub loaded_by : Option Load → List ℕ → ℕ → World K → Told K
  loaded_by (Some (Running id)) path budget w = ended_value (val.Ref id) 0 w
  loaded_by (Some (Loaded id)) path budget w = ended_value (val.Ref id) 0 w
  loaded_by (Some (Failed exc trace)) path budget w = ended_raised exc trace 0 w
  loaded_by None path budget w = loaded_first (coded (source_at path w.sources)) path budget w

  -- THE LOAD OF A MODULE, which is executed once
  abbrev pub module_load : List ℕ → ℕ → World K → Told K
  module_load path budget w = loaded_by (load_at path w.modules) path budget w
