-- How calls of objects and of classes are told apart.
use Rattle.std.specs.Prelude.{◌≡◌, ℕ, Bool, true, false, List, Option, Some, None, slice_get}
use Rattle.run_tree.specs.Todo.{Ask}
use Rattle.py_values.specs.declared.class.ClassForm.{ClassForm}
use Rattle.py_values.specs.declared.class.ClassForm.TheVariants.{Source, Exception, Kind}
use Rattle.py_values.specs.declared.end.Raise.{Raise}
use Rattle.py_values.specs.declared.object.ClassObj.{ClassObj}
use Rattle.py_values.specs.declared.object.FunctionObj.{FunctionObj}
use Rattle.py_values.specs.declared.object.Obj.{Obj}
use Rattle.py_values.specs.declared.object.Obj.TheVariants as obj
use Rattle.py_values.specs.declared.value.Value.{Value}
use Rattle.machine_state.specs.py_world.Arguments.{Arguments}
use Rattle.machine_state.specs.py_world.Site.{Around}
use Rattle.machine_state.specs.py_world.Outcome.{CallOf, call_end, gave_in, raised, spent}
use Rattle.machine_state.specs.py_world.Calls.{arguments_for, called_or, function_called, init_called, init_end, not_callable, argument_error}
use Rattle.machine_state.specs.py_world.World.{with_heap}
use Rattle.py_kinds.specs.Kinds.{kind_name}
use Rattle.machine_state.specs.core_meaning.Statements.{entry}
use Rattle.machine_state.specs.declared.machine.Machine.{Machine}
use Rattle.machine_state.specs.declared.machine.Origin.{Origin}
use Rattle.machine_state.specs.Places.{CoreRest, CoreState, CoreThen, ends}
use Rattle.machine_state.specs.Frames.{around_by, machine_rest, state_of, Follows}
use Rattle.machine_call.specs.declared.objects.CodeCall.{CodeCall}
use Rattle.machine_call.specs.declared.class.CallProgress.{CallProgress}
use Rattle.machine_call.specs.declared.class.CallProgress.TheVariants.{Over, Again}
use Rattle.machine_call.specs.Depth.{Ready}

-- a function with arguments, where it is one
abbrev pub code_call : FunctionObj → Arguments → CodeCall
code_call f args = record { at = f.code; names = arguments_for f args }

abbrev pub call_by : Option FunctionObj → Arguments → Option CodeCall
call_by None args = None
call_by (Some f) args = Some (code_call f args)

abbrev pub function_or : Option FunctionObj → Raise → Arguments → Around → CoreState → CoreThen → CoreRest
function_or None none args a s k = k (raised none a.trace s)
function_or (Some f) none args a s k = function_called entry (slice_get s.world.codes f.code) f none args a s k

-- the class that an object is, where it is one of the sources or of exceptions
abbrev pub class_by_form : ClassForm → ClassObj → Option ClassObj
class_by_form Source c = Some c
class_by_form (Exception e) c = Some c
class_by_form (Kind b) c = None

abbrev pub called_class : Option Obj → Option ClassObj
called_class (Some (obj.Text x)) = None
called_class (Some (obj.List x)) = None
called_class (Some (obj.Tuple x)) = None
called_class (Some (obj.Dict x)) = None
called_class (Some (obj.Range x)) = None
called_class (Some (obj.Function x)) = None
called_class (Some (obj.Method x)) = None
called_class (Some (obj.Builtin x)) = None
called_class (Some (obj.Class c)) = class_by_form c.form c
called_class (Some (obj.Instance x)) = None
called_class (Some (obj.Exception x)) = None
called_class (Some (obj.Module x)) = None
called_class (Some (obj.Fixture x)) = None
called_class (Some obj.MarkMaker) = None
called_class (Some (obj.Mark x)) = None
called_class (Some (obj.Hook x)) = None
called_class (Some (obj.Param x)) = None
called_class (Some (obj.Request x)) = None
called_class (Some (obj.Raises x)) = None
called_class (Some (obj.Info x)) = None
called_class (Some (obj.Item x)) = None
called_class None = None

-- a call of an object that is no such class
abbrev pub object_called : Option Obj → Raise → Arguments → Around → CoreState → CoreThen → CoreRest
object_called o none args a s k = called_or entry o none args a s k (λ c. k (raised none a.trace s))

-- what is raised where a class without `__init__` doesn't take its arguments
abbrev pub bare_misfit : Bool → List ℕ → Option Raise
bare_misfit true name = None
bare_misfit false name = Some (argument_error name)

-- a call of such a class, with a new instance
abbrev pub bare_called : Option Raise → Value × List Obj → Around → CoreState → CoreThen → CoreRest
bare_called None x a s k = k (gave_in x s)
bare_called (Some r) x a s k = k (raised r a.trace s)

-- a call of a class with an `__init__`, with a new instance
abbrev pub with_init : Value → Value × List Obj → Arguments → Around → CoreState → CoreThen → CoreRest
with_init init x args a s k = init_called entry init x.0 (not_callable (kind_name x.1 init)) args a (with_heap x.1 s) (λ o. k (init_end x.0 o))

-- what follows a call that is made here
abbrev pub call_rest : Machine → CoreThen
call_rest m o = machine_rest m (call_end (state_of m) o)

-- a call is over in a turn that goes on, or a class is its `__init__`, which is called with a step
abbrev pub Calls : CallProgress → Origin → Arguments → Machine → ℕ → CoreRest → Type 0
Calls (Over t) origin args m n u = Follows t m n u
Calls (Again f) origin args m n u =
    (ends n u ≡ ends m.left (Ask (spent (around_by origin m).trace (state_of m)) (CallOf f args (around_by origin m) (state_of m)) (call_rest m)))
    × ((m.left ≡ n) × Ready origin m)
