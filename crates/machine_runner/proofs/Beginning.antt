-- How a call by the runner begins.
use Rattle.std.proofs.Common.{◌≡◌, List, [], ◌∷◌, Option, Some, None, refl}
use Rattle.std.specs.Prelude.{slice_get}
use Rattle.run_tree.specs.Todo.{Done}
use Rattle.py_core.specs.declared.stmt.CoreFn.{CoreFn}
use Rattle.py_values.specs.declared.object.FunctionObj.{FunctionObj}
use Rattle.py_values.specs.declared.value.ObjId.{ObjId}
use Rattle.py_values.specs.declared.value.Value.{Value}
use Rattle.py_values.specs.declared.value.Value.TheVariants as val
use Rattle.lower_law.specs.py_world.World.{FunctionCode}
use Rattle.lower_law.specs.py_world.Outcome.{raised, call_end}
use Rattle.lower_law.specs.py_world.Calls.{invoke, arguments_for}
use Rattle.lower_law.specs.py_world.Runs.{function_and, function_begun, object_begun}
use Rattle.lower_law.specs.core_meaning.Meaning.{core}
use Rattle.lower_law.specs.core_meaning.Statements.{entry}
use Rattle.lower_law.specs.py_world.Arguments.{positional_arguments}
use Rattle.lower_law.specs.py_world.Site.{no_call, frame}
use Rattle.machine_state.specs.Places.{CoreState}
use Rattle.machine_runner.specs.declared.misfit.Misfit.{Misfit}
use Rattle.machine_runner.specs.Begun.{Fits, FitsCall, Begins}

fits_begin : (st : Option (FunctionCode CoreFn)) (x : FunctionObj) (all : List Value) (f : Value) (args : List Value) (s : CoreState) → Fits None (arguments_for x (positional_arguments all)) st (frame x.path x.line x.name ∷ [])
    → function_begun core st x all f args s ≡ invoke entry f (positional_arguments args) no_call s (λ o. Done (call_end s o))
fits_begin None x all f args s h = refl
fits_begin (Some code) x all f args s h = rw h.1 refl

misfit_begins : (y : Misfit) (st : Option (FunctionCode CoreFn)) (x : FunctionObj) (all : List Value) (f : Value) (args : List Value) (s : CoreState)
    → Fits (Some y) (arguments_for x (positional_arguments all)) st (frame x.path x.line x.name ∷ []) → function_begun core st x all f args s ≡ Done (raised y.raise y.trace s)
misfit_begins y None x all f args s h = elim h [ ]
misfit_begins y (Some code) x all f args s h = rw (h.0, h.1) refl

-- a call of an object begins
pub object_fits : (fo : Option (FunctionObj × List Value)) (f : Value) (args : List Value) (s : CoreState) → FitsCall None fo s.world.codes
    → object_begun core fo f args s ≡ invoke entry f (positional_arguments args) no_call s (λ o. Done (call_end s o))
object_fits None f args s h = refl
object_fits (Some c) f args s h = fits_begin (slice_get s.world.codes c.0.code) c.0 c.1 f args s h

pub object_misfits : (y : Misfit) (fo : Option (FunctionObj × List Value)) (f : Value) (args : List Value) (s : CoreState) → FitsCall (Some y) fo s.world.codes
    → object_begun core fo f args s ≡ Done (raised y.raise y.trace s)
object_misfits y None f args s h = absurd cc
object_misfits y (Some c) f args s h = misfit_begins y (slice_get s.world.codes c.0.code) c.0 c.1 f args s h

pub begins : (x : Option Misfit) (id : ObjId) (args : List Value) (s : CoreState) → FitsCall x (function_and s.world.heap args (slice_get s.world.heap id.at)) s.world.codes → Begins x (val.Ref id) args s
begins None id args s h = object_fits (function_and s.world.heap args (slice_get s.world.heap id.at)) (val.Ref id) args s h
begins (Some y) id args s h = object_misfits y (function_and s.world.heap args (slice_get s.world.heap id.at)) (val.Ref id) args s h
