-- Whole calls and loads of modules.
use Rattle.std.proofs.Common.{◌≡◌, ℕ, ◌-◌, List, [], ◌∷◌, Option, Some, None, Bool, true, false, refl, subst}
use Rattle.std.specs.Prelude.{slice_get, cond, Result, Ok, Err}
use Rattle.std.specs.List.{list_any}
use Rattle.run_tree.specs.Todo as tree
use Rattle.run_tree.specs.Todo.{Done}
use Rattle.run_tree.specs.Same.{SameEnding, SameRun}
use Rattle.run_tree.proofs.SameRuns.{run_same}
use Rattle.py_source.specs.declared.pos.Pos.{Pos}
use Rattle.core_meaning.specs.py_core.declared.stmt.Core.{Core}
use Rattle.core_meaning.specs.py_core.declared.stmt.CoreFn.{CoreFn}
use Rattle.py_values.specs.declared.end.Raise.{Raise}
use Rattle.py_values.specs.declared.object.FunctionObj.{FunctionObj}
use Rattle.py_values.specs.declared.value.Value.{Value}
use Rattle.py_values.specs.declared.value.Value.TheVariants as val
use Rattle.source_meaning.specs.py_world.declared.load.Load.{Load}
use Rattle.source_meaning.specs.py_world.declared.load.Load.TheVariants.{Running, Loaded, Failed}
use Rattle.source_meaning.specs.py_world.declared.trace.TraceFrame.{TraceFrame}
use Rattle.source_meaning.specs.py_world.World.{Kinds, World, Locals, FunctionCode}
use Rattle.source_meaning.specs.py_world.Site.{no_call, frame}
use Rattle.source_meaning.specs.py_world.Arguments.{positional_arguments}
use Rattle.source_meaning.specs.py_world.Outcome.{Outcome, Rest, Exhaustion, Suspension, Request, call_end}
use Rattle.source_meaning.specs.py_world.Calls.{Meaning, arguments_for, invoke, body_of}
use Rattle.source_meaning.specs.py_world.Runs.{ended_value, ended_spent, is_running, out_of_steps, ended_by, told_by, start, run_of, function_and, fitting_begun, function_begun, object_begun, begun_by_runner, loading, loaded_first, loaded_by, load_at}
use Rattle.source_meaning.specs.Requests.{source_kinds, Script, Function}
use Rattle.source_meaning.specs.Meaning.{SourceWorld, source_semantics, source_call, source_module}
use Rattle.core_meaning.specs.Requests.{core_kinds}
use Rattle.core_meaning.specs.Meaning.{CoreWorld, core, core_call, core_module}
use Rattle.lower_law.specs.Alike as alike
use Rattle.lower_law.specs.Alike.{states, EndsAlike, gave, next, returned, broke, continued, SpentAlike, out, PausedAlike, stops, RequestsAlike, worlds}
use Rattle.lower_law.specs.Law.{call_tape, Lowering, LoweredWorld, SameTold}
use Rattle.lower_law.specs.Lowered.{LoweredModule}
use Rattle.lower_law.proofs.Parts as part
use Rattle.lower_law.proofs.Blocks as block
use Rattle.lower_law.proofs.Loads as loads
use Rattle.lower_law.proofs.Forms.{Follow, meanings_same}

abbrev pub Ends : Outcome source_kinds → Outcome core_kinds → Type 0
Ends = EndsAlike Lowering

abbrev pub SourceEnding : Type 0
SourceEnding = tree.Ending Pos (Exhaustion source_kinds) (Request source_kinds) (Outcome source_kinds) (Suspension source_kinds)

abbrev pub CoreEnding : Type 0
CoreEnding = tree.Ending Pos (Exhaustion core_kinds) (Request core_kinds) (Outcome core_kinds) (Suspension core_kinds)

abbrev pub SameEnd : SourceEnding → CoreEnding → Type 0
SameEnd = SameEnding (SpentAlike Lowering) (RequestsAlike Lowering) Ends (PausedAlike Lowering)

ended_with : {o : Outcome source_kinds} {q : Outcome core_kinds} → Ends o q → (n : ℕ) → SameTold (ended_by o n) (ended_by q n)
ended_with (gave v (states a t ws)) n = (refl, ws)
ended_with (next (states a t ws)) n = (refl, ws)
ended_with (returned v (states a t ws)) n = (refl, ws)
ended_with (broke (states a t ws)) n = (refl, ws)
ended_with (continued (states a t ws)) n = (refl, ws)
ended_with (alike.raised e trace (states a t ws)) n = (refl, ws)

pub ended_same : {o : Outcome source_kinds} {q : Outcome core_kinds} → Ends o q → (budget m n : ℕ) → m ≡ n → SameTold (ended_by o (budget - m)) (ended_by q (budget - n))
ended_same {o = o} {q = q} e budget m n is = subst (λ k. SameTold (ended_by o (budget - m)) (ended_by q (budget - k))) is (ended_with e (budget - m))

world_cond : (b : Bool) (w w' : SourceWorld) (z z' : CoreWorld) → LoweredWorld w z → LoweredWorld w' z' → LoweredWorld (cond b w w') (cond b z z')
world_cond true w w' z z' h g = h
world_cond false w w' z z' h g = g

spent_world : (budget : ℕ) (trace : List TraceFrame) {w : SourceWorld} {z : CoreWorld} → LoweredWorld w z → LoweredWorld (out_of_steps budget trace w) (out_of_steps budget trace z)
spent_world budget trace (worlds xs ys zs modules heap printed traces) = world_cond (list_any is_running modules) _ _ _ _ (worlds xs ys zs _ _ printed traces) (worlds xs ys zs modules heap printed traces)

pub spent_told : (budget : ℕ) {x : Exhaustion source_kinds} {y : Exhaustion core_kinds} → SpentAlike Lowering x y → SameTold (ended_spent budget x) (ended_spent budget y)
spent_told budget (out trace (states a t ws)) = (refl, spent_world budget trace ws)

stopped_with : {f : Suspension source_kinds} {g : Suspension core_kinds} → PausedAlike Lowering f g → (n : ℕ) → SameTold (ended_value f.value n f.state.world) (ended_value g.value n g.state.world)
stopped_with (stops v p rest (states a t ws)) n = (refl, ws)

stopped_same : {f : Suspension source_kinds} {g : Suspension core_kinds} → PausedAlike Lowering f g → (budget m n : ℕ) → m ≡ n → SameTold (ended_value f.value (budget - m) f.state.world) (ended_value g.value (budget - n) g.state.world)
stopped_same {f = f} {g = g} e budget m n is = subst (λ k. SameTold (ended_value f.value (budget - m) f.state.world) (ended_value g.value (budget - k) g.state.world)) is (stopped_with e (budget - m))

told_same : (budget : ℕ) (a : SourceEnding) (b : CoreEnding) → SameEnd a b → SameTold (told_by budget a) (told_by budget b)
told_same budget (tree.Ended o m) (tree.Ended q n) h = ended_same h.0 budget m n h.1
told_same budget (tree.Spent x) (tree.Spent y) h = spent_told budget h
told_same budget (tree.Frozen f m) (tree.Frozen g n) h = stopped_same h.0 budget m n h.1
told_same budget (tree.Ended o m) (tree.Spent y) h = elim h [ ]
told_same budget (tree.Ended o m) (tree.Frozen q n) h = elim h [ ]
told_same budget (tree.Spent x) (tree.Ended q n) h = elim h [ ]
told_same budget (tree.Spent x) (tree.Frozen q n) h = elim h [ ]
told_same budget (tree.Frozen o m) (tree.Ended q n) h = elim h [ ]
told_same budget (tree.Frozen o m) (tree.Spent y) h = elim h [ ]

-- runs of what is left to do
pub runs_same : (budget : ℕ) (x : Rest source_kinds) (y : Rest core_kinds) → Follow x y → SameRun (SpentAlike Lowering) (RequestsAlike Lowering) Ends (PausedAlike Lowering) (tree.run (body_of source_semantics) budget x) (tree.run (body_of core) budget y)
runs_same budget x y h = run_same _ _ _ _ (body_of source_semantics) (body_of core) (block.body_same _ source_semantics core meanings_same) budget x y h

run_told : (budget : ℕ) (x : Rest source_kinds) (y : Rest core_kinds) → Follow x y → SameTold (run_of source_semantics budget x) (run_of core budget y)
run_told budget x y h = told_same budget _ _ (runs_same budget x y h).1

pub follow_cond : (b : Bool) (x y : Rest source_kinds) (x' y' : Rest core_kinds) → Follow x x' → Follow y y' → Follow (cond b x y) (cond b x' y')
follow_cond true x y x' y' h g = h
follow_cond false x y x' y' h g = g

abbrev begun_plain : {K : Kinds} → Meaning K → Value → List Value → World K → Rest K
begun_plain meaning f args w = invoke meaning.entry f (positional_arguments args) no_call (start w) (λ o. Done (call_end (start w) o))

invoked : (f : Value) (args : List Value) (w : SourceWorld) (z : CoreWorld) → LoweredWorld w z → Follow (begun_plain source_semantics f args w) (begun_plain core f args z)
invoked f args w z ws = (block.invoke_same _ source_semantics.entry core.entry meanings_same.entries f (positional_arguments args) no_call).does (states [] [] ws) _ _ (λ o q n. part.call_end_same Lowering (states [] [] ws) n)

fitting_begun_same : (r : Result Locals Raise) (at : List TraceFrame) (f : Value) (args : List Value) (w : SourceWorld) (z : CoreWorld) → LoweredWorld w z → Follow (fitting_begun source_semantics r at f args (start w)) (fitting_begun core r at f args (start z))
fitting_begun_same (Ok names) at f args w z ws = invoked f args w z ws
fitting_begun_same (Err r) at f args w z ws = part.raised_same Lowering r at (states [] [] ws)

function_begun_same : {x : Option (FunctionCode Function)} {y : Option (FunctionCode CoreFn)} → block.FoundAlike Lowering x y → (g : FunctionObj) (all : List Value) (f : Value) (args : List Value) (w : SourceWorld) (z : CoreWorld) → LoweredWorld w z → Follow (function_begun source_semantics x g all f args (start w)) (function_begun core y g all f args (start z))
function_begun_same block.absent g all f args w z ws = invoked f args w z ws
function_begun_same (block.present path home h) g all f args w z ws = fitting_begun_same (arguments_for g (positional_arguments all)) (frame g.path g.line g.name ∷ []) f args w z ws

object_begun_same : (o : Option (FunctionObj × List Value)) (f : Value) (args : List Value) {w : SourceWorld} {z : CoreWorld} → LoweredWorld w z → Follow (object_begun source_semantics o f args (start w)) (object_begun core o f args (start z))
object_begun_same (Some x) f args (worlds xs ys zs modules heap printed traces) = function_begun_same (block.found _ ys x.0.code) x.0 x.1 f args _ _ (worlds xs ys zs modules heap printed traces)
object_begun_same None f args ws = invoked f args _ _ ws

pub begun_by_runner_same : (f : Value) (args : List Value) {w : SourceWorld} {z : CoreWorld} → LoweredWorld w z → Follow (begun_by_runner source_semantics f args (start w)) (begun_by_runner core f args (start z))
begun_by_runner_same (val.Ref id) args (worlds xs ys zs modules heap printed traces) = object_begun_same (function_and heap args (slice_get heap id.at)) (val.Ref id) args (worlds xs ys zs modules heap printed traces)
begun_by_runner_same val.None args ws = invoked val.None args _ _ ws
begun_by_runner_same (val.Bool b) args ws = invoked (val.Bool b) args _ _ ws
begun_by_runner_same (val.Int n) args ws = invoked (val.Int n) args _ _ ws

-- CALLS
pub calls_same : (w : SourceWorld) (z : CoreWorld) → LoweredWorld w z → (f : Value) (args : List Value) (budget : ℕ) → SameTold (source_call f args budget w) (core_call f args budget z)
calls_same w z ws f args budget = run_told budget _ _ (begun_by_runner_same f args ws)

loading_same : (path : List ℕ) (b : Script) (code : Core) → LoweredModule b code → {w : SourceWorld} {z : CoreWorld} → LoweredWorld w z → Follow (loading source_semantics path b w) (loading core path code z)
loading_same path b code h ws = loads.executed_same Lowering source_semantics.body core.body meanings_same.bodies path b code h no_call ws (λ o. Done o) (λ o. Done o) (λ o q n. n)

abbrev CodeFound : Option Script → Option Core → Type 0
CodeFound = loads.CodeFound Lowering

loaded_first_same : {b : Option Script} {code : Option Core} → CodeFound b code → (path : List ℕ) (budget : ℕ) {w : SourceWorld} {z : CoreWorld} → LoweredWorld w z → SameTold (loaded_first source_semantics b path budget w) (loaded_first core code path budget z)
loaded_first_same loads.none path budget ws = (refl, ws)
loaded_first_same (loads.some {b = b} {code = code} h) path budget ws = run_told budget _ _ (loading_same path b code h ws)

loaded_by_same : (load : Option Load) (path : List ℕ) (budget : ℕ) {w : SourceWorld} {z : CoreWorld} → LoweredWorld w z → SameTold (loaded_by source_semantics load path budget w) (loaded_by core load path budget z)
loaded_by_same (Some (Running id)) path budget ws = (refl, ws)
loaded_by_same (Some (Loaded id)) path budget ws = (refl, ws)
loaded_by_same (Some (Failed e trace)) path budget ws = (refl, ws)
loaded_by_same None path budget (worlds xs ys zs modules heap printed traces) = loaded_first_same (loads.code_found Lowering path xs) path budget (worlds xs ys zs modules heap printed traces)

modules_from : (path : List ℕ) (budget : ℕ) {w : SourceWorld} {z : CoreWorld} → LoweredWorld w z → SameTold (source_module path budget w) (core_module path budget z)
modules_from path budget (worlds xs ys zs modules heap printed traces) = loaded_by_same (load_at path modules) path budget (worlds xs ys zs modules heap printed traces)

-- LOADS OF MODULES
pub modules_same : (w : SourceWorld) (z : CoreWorld) → LoweredWorld w z → (path : List ℕ) (budget : ℕ) → SameTold (source_module path budget w) (core_module path budget z)
modules_same w z ws path budget = modules_from path budget ws

-- TAPES: the positions of all expressions that began are the same
pub tapes_same : (w : SourceWorld) (z : CoreWorld) → LoweredWorld w z → (f : Value) (args : List Value) (budget : ℕ) → call_tape source_semantics f args budget w ≡ call_tape core f args budget z
tapes_same w z ws f args budget = (runs_same budget _ _ (begun_by_runner_same f args ws)).0
