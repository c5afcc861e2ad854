-- Calls of functions of the sources are their bodies.
use Rattle.std.proofs.Common.{◌≡◌, ◌∙◌, ℕ, List, [], Option, Some, None, true, false, refl, sym, ap}
use Rattle.std.specs.Prelude.{Result, Ok, nat_lt, slice_get}
use Rattle.py_values.specs.declared.object.ClassObj.{ClassObj}
use Rattle.py_values.specs.declared.object.FunctionObj.{FunctionObj}
use Rattle.py_values.specs.declared.object.Obj.{Obj}
use Rattle.py_values.specs.declared.object.Obj.TheVariants as obj
use Rattle.py_values.specs.declared.end.Raise.{Raise}
use Rattle.py_values.specs.declared.value.Value.{Value}
use Rattle.py_values.specs.declared.value.Value.TheVariants as val
use Rattle.py_kinds.specs.Kinds.{kind_name}
use Rattle.machine_state.specs.py_core.declared.stmt.CoreFn.{CoreFn}
use Rattle.machine_state.specs.py_world.World.{Locals, FunctionCode, heap_of, state}
use Rattle.machine_state.specs.py_world.Site.{Around, around_of, trace_of}
use Rattle.machine_state.specs.py_world.declared.trace.TraceFrame.{TraceFrame}
use Rattle.machine_state.specs.py_world.declared.ended.Thrown.{Thrown}
use Rattle.machine_state.specs.py_world.Arguments.{Arguments, fitted}
use Rattle.machine_state.specs.py_world.Calls.{arguments_for, called_or, class_called, entered, function_called, function_of_object, invoke, most_open, not_callable, scene_of}
use Rattle.machine_state.specs.core_meaning.Statements.{entry}
use Rattle.machine_state.specs.declared.machine.Machine.{Machine}
use Rattle.machine_state.specs.declared.place.Location.{Location}
use Rattle.machine_state.specs.declared.place.Place.TheVariants.{Function}
use Rattle.machine_state.specs.Places.{CoreRest, CoreState, CoreThen, at_line, scene_in, site_of}
use Rattle.machine_state.specs.Frames.{world_of}
use Rattle.machine_immediate.specs.Opened.{function_called_by, IsCallee}

-- a call of a function
called_function : (o : Option Obj) (f : FunctionObj) (none : Raise) (args : Arguments) (a : Around) (s : CoreState) (k : CoreThen) (class : ClassObj → CoreRest)
    → function_of_object o ≡ Some f → called_or entry o none args a s k class ≡ function_called entry (slice_get s.world.codes f.code) f none args a s k
called_function (Some (obj.Function g)) f none args a s k class is =
    let same : g ≡ f = cc in ap (λ (h : FunctionObj). function_called entry (slice_get s.world.codes h.code) h none args a s k) same
called_function (Some (obj.Text x)) f none args a s k class is = absurd cc
called_function (Some (obj.List x)) f none args a s k class is = absurd cc
called_function (Some (obj.Tuple x)) f none args a s k class is = absurd cc
called_function (Some (obj.Dict x)) f none args a s k class is = absurd cc
called_function (Some (obj.Range x)) f none args a s k class is = absurd cc
called_function (Some (obj.Method x)) f none args a s k class is = absurd cc
called_function (Some (obj.Builtin x)) f none args a s k class is = absurd cc
called_function (Some (obj.Class x)) f none args a s k class is = absurd cc
called_function (Some (obj.Instance x)) f none args a s k class is = absurd cc
called_function (Some (obj.Exception x)) f none args a s k class is = absurd cc
called_function (Some (obj.Module x)) f none args a s k class is = absurd cc
called_function (Some (obj.Fixture x)) f none args a s k class is = absurd cc
called_function (Some obj.MarkMaker) f none args a s k class is = absurd cc
called_function (Some (obj.Mark x)) f none args a s k class is = absurd cc
called_function (Some (obj.Hook x)) f none args a s k class is = absurd cc
called_function (Some (obj.Param x)) f none args a s k class is = absurd cc
called_function (Some (obj.Request x)) f none args a s k class is = absurd cc
called_function (Some (obj.Raises x)) f none args a s k class is = absurd cc
called_function (Some (obj.Info x)) f none args a s k class is = absurd cc
called_function (Some (obj.Item x)) f none args a s k class is = absurd cc
called_function None f none args a s k class is = absurd cc

value_called_function : (callee : Value) (f : FunctionObj) (args : Arguments) (a : Around) (s : CoreState) (k : CoreThen)
    → function_called_by (heap_of s) callee ≡ Some f → invoke entry callee args a s k ≡ function_called entry (slice_get s.world.codes f.code) f (not_callable (kind_name (heap_of s) callee)) args a s k
value_called_function (val.Ref id) f args a s k is = called_function (slice_get (heap_of s) id.at) f (not_callable (kind_name (heap_of s) (val.Ref id))) args a s k (λ c. class_called entry id c args a s k) is
value_called_function val.None f args a s k is = absurd cc
value_called_function (val.Bool b) f args a s k is = absurd cc
value_called_function (val.Int n) f args a s k is = absurd cc

-- its arguments fit, since it doesn't yield
arguments_fit : (f : FunctionObj) (args : Arguments) (names : Locals) → f.yields ≡ false → fitted f.params args.plain args.named [] ≡ Some names → arguments_for f args ≡ Ok names
arguments_fit f args names plain fits = rw (plain, fits) refl

-- its body runs, where one more function may be open
entered_body : (st : FunctionCode CoreFn) (names : Locals) (a : Around) (s : CoreState) (k : CoreThen) → nat_lt a.depth most_open ≡ true → entered entry st (Ok names) a s k ≡ (entry st.code).body (scene_of entry st a) (state names [] s.world) k
entered_body st names a s k room = rw room refl

-- A CALL IS THE BODY of the function's code, in a place of its own with its own names
pub call_opened : (m : Machine) (here : Location) (callee : Value) (args : Arguments) (f : FunctionObj) (st : FunctionCode CoreFn) (around : ℕ) (bound : Locals) → IsCallee callee f st around m here → fitted f.params args.plain args.named [] ≡ Some bound
    → (outer : List TraceFrame) (handled : Option Thrown) (line : ℕ) (names : Locals) (temps : List (Option Value)) (k : CoreThen)
    → invoke entry callee args (around_of (site_of (at_line line here) outer handled)) (state names temps (world_of m)) k
    ≡ (entry st.code).body (scene_in (Function st) around (trace_of (site_of (at_line line here) outer handled)) handled) (state bound [] (world_of m)) k
call_opened m here callee args f st around bound is fits outer handled line names temps k =
    let p = site_of (at_line line here) outer handled in
    let s = state names temps (world_of m) in
    value_called_function callee f args (around_of p) s k is.called
    ∙ ap (λ (x : Option (FunctionCode CoreFn)). function_called entry x f (not_callable (kind_name m.heap callee)) args (around_of p) s k) is.coded
    ∙ ap (λ (x : Result Locals Raise). entered entry st x (around_of p) s k) (arguments_fit f args bound is.returns fits)
    ∙ entered_body st bound (around_of p) s k is.room
    ∙ ap (λ (n : ℕ). (entry st.code).body (scene_in (Function st) n (trace_of p) handled) (state bound [] (world_of m)) k) (sym is.inside)
