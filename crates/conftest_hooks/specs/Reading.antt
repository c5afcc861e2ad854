-- THE HOOKS OF A CONFTEST, as its names have them behind its load (pytest's reference, "conftest.py files"; pluggy's documentation,
-- "Marking hooks" and "Call time order"): functions whose names begin with `pytest_`, in order of first binding. A name that is none of a
-- hook, an argument that the hook doesn't have, and a `yield` in what is no wrapper are faults; the first counts.
use Rattle.std.specs.Prelude.{ℕ, false, ◌&&◌, not, List, [], ◌∷◌, ◌++◌, ◌-◌, Option, Some, None, Result, Ok, Err, codes, length, take, if◌then◌else◌}
use Rattle.collect_names.specs.Objects.{function_at, object_in}
use Rattle.fixture_definitions.specs.Arguments.{asked_params, defined_at}
use Rattle.py_values.specs.declared.object.FunctionObj.{FunctionObj}
use Rattle.py_values.specs.declared.object.HookObj.{HookObj}
use Rattle.py_values.specs.declared.object.Obj.{Obj}
use Rattle.py_values.specs.declared.object.Obj.TheVariants as obj
use Rattle.py_values.specs.declared.value.Value.{Value}
use Rattle.conftest_hooks.specs.Names.{first_untaken, hook_arguments, hook_named, is_plugin_name}
use Rattle.conftest_hooks.specs.declared.hook_name.HookName.{HookName}
use Rattle.conftest_hooks.specs.declared.looking.FoundHook.{FoundHook}
use Rattle.conftest_hooks.specs.declared.looking.HookFault.{HookFault}
use Rattle.conftest_hooks.specs.declared.looking.Looked.{Looked}
use Rattle.conftest_hooks.specs.declared.looking.Looked.TheVariants as looked

-- THE FLAGS

-- what `hookimpl` made
abbrev pub hookimpl_at : Option Obj → Option HookObj
hookimpl_at (Some (obj.Hook x)) = Some x
hookimpl_at (Some (obj.Text x)) = None
hookimpl_at (Some (obj.List x)) = None
hookimpl_at (Some (obj.Tuple x)) = None
hookimpl_at (Some (obj.Dict x)) = None
hookimpl_at (Some (obj.Range x)) = None
hookimpl_at (Some (obj.Function x)) = None
hookimpl_at (Some (obj.Method x)) = None
hookimpl_at (Some (obj.Builtin x)) = None
hookimpl_at (Some (obj.Class x)) = None
hookimpl_at (Some (obj.Instance x)) = None
hookimpl_at (Some (obj.Exception x)) = None
hookimpl_at (Some (obj.Module x)) = None
hookimpl_at (Some (obj.Fixture x)) = None
hookimpl_at (Some obj.MarkMaker) = None
hookimpl_at (Some (obj.Mark x)) = None
hookimpl_at (Some (obj.Param x)) = None
hookimpl_at (Some (obj.Request x)) = None
hookimpl_at (Some (obj.Raises x)) = None
hookimpl_at (Some (obj.Info x)) = None
hookimpl_at (Some (obj.Item x)) = None
hookimpl_at None = None

abbrev pub no_flags : HookObj
no_flags = record { wrapper = false; first = false; last = false }

abbrev pub flags_or : HookObj → Option HookObj → HookObj
flags_or flags (Some x) = x
flags_or flags None = flags

-- those of the last `hookimpl` among the marks of a function, or else these
abbrev pub last_flags : List Obj → HookObj → List Value → HookObj
last_flags heap flags [] = flags
last_flags heap flags (v ∷ vs) = last_flags heap (flags_or flags (hookimpl_at (object_in heap v))) vs

-- THE FAULTS

abbrev pub unknown_text : List ℕ → List ℕ
unknown_text name = codes "unknown hook '" ++ (name ++ codes "'")

abbrev pub untaken_text : List ℕ → List ℕ → List ℕ
untaken_text name argument = codes "hook '" ++ (name ++ (codes "' has no argument '" ++ (argument ++ codes "'")))

abbrev pub yields_text : List ℕ → List ℕ
yields_text name = codes "hook '" ++ (name ++ codes "' yields")

-- a fault has the place of the function's `def`
abbrev pub fault_of : FunctionObj → List ℕ → HookFault
fault_of f text = record { text = text; defined = defined_at (Some f) }

-- A FUNCTION

-- a function that is a hook of the items in a folder
abbrev pub hook_made : List ℕ → HookName → HookObj → Value → FunctionObj → FoundHook
hook_made folder h flags v f = record {
  name = h;
  hook = record { function = v; arguments = hook_arguments (asked_params false f.params); folder = folder; defined = defined_at (Some f) };
  flags = flags;
}

abbrev pub looked_taken : List ℕ → List ℕ → HookName → HookObj → Value → FunctionObj → Option (List ℕ) → Looked
looked_taken folder name h flags v f (Some argument) = looked.Faulty (fault_of f (untaken_text name argument))
looked_taken folder name h flags v f None =
    if f.yields && not flags.wrapper then looked.Faulty (fault_of f (yields_text name)) else looked.Found (hook_made folder h flags v f)

abbrev pub looked_named : List Obj → List ℕ → List ℕ → Value → FunctionObj → Option HookName → Looked
looked_named heap folder name v f (Some h) = looked_taken folder name h (last_flags heap no_flags f.marks) v f (first_untaken h (asked_params false f.params))
looked_named heap folder name v f None = looked.Faulty (fault_of f (unknown_text name))

abbrev pub looked_function : List Obj → List ℕ → List ℕ → Value → Option FunctionObj → Looked
looked_function heap folder name v (Some f) = looked_named heap folder name v f (hook_named name)
looked_function heap folder name v None = looked.Other

-- what the value of a name is
abbrev pub looked_at : List Obj → List ℕ → List ℕ × Value → Looked
looked_at heap folder entry = if is_plugin_name entry.0 then looked_function heap folder entry.0 entry.1 (function_at (object_in heap entry.1)) else looked.Other

-- A CONFTEST

abbrev pub hook_before : FoundHook → Result (List FoundHook) HookFault → Result (List FoundHook) HookFault
hook_before h (Ok hooks) = Ok (h ∷ hooks)
hook_before h (Err fault) = Err fault

abbrev pub looked_before : Looked → Result (List FoundHook) HookFault → Result (List FoundHook) HookFault
looked_before looked.Other rest = rest
looked_before (looked.Found h) rest = hook_before h rest
looked_before (looked.Faulty fault) rest = Err fault

-- THE HOOKS among some names, for the items in a folder, or the first fault
abbrev pub hooks_among : List Obj → List ℕ → List (List ℕ × Value) → Result (List FoundHook) HookFault
hooks_among heap folder [] = Ok []
hooks_among heap folder (entry ∷ entries) = looked_before (looked_at heap folder entry) (hooks_among heap folder entries)

-- the folder of a conftest, with its slash
abbrev pub conftest_folder : List ℕ → List ℕ
conftest_folder path = take (length path - length (codes "conftest.py")) path
