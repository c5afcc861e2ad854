-- THE HOOKS that a conftest may have, and what their functions take (pytest's reference, "Hooks").
use Rattle.std.specs.Prelude.{ℕ, Bool, ◌||◌, List, [], ◌∷◌, Option, Some, None, codes, nat_eq, if◌then◌else◌}
use Rattle.std.specs.List.{filter_map, starts_with}
use Rattle.py_values.specs.Names.{name_eq}
use Rattle.test_suite.specs.declared.hook.HookArgument.{HookArgument}
use Rattle.test_suite.specs.declared.hook.HookArgument.TheVariants as argument
use Rattle.conftest_hooks.specs.declared.hook_name.HookName.{HookName}
use Rattle.conftest_hooks.specs.declared.hook_name.HookName.TheVariants as hook

-- the names of hooks begin so
abbrev pub is_plugin_name : List ℕ → Bool
is_plugin_name name = starts_with nat_eq name (codes "pytest_")

abbrev pub hook_named : List ℕ → Option HookName
hook_named name =
    if name_eq (codes "pytest_runtest_setup") name then Some hook.SetUp
    else if name_eq (codes "pytest_runtest_call") name then Some hook.Call
    else if name_eq (codes "pytest_runtest_teardown") name then Some hook.Teardown
    else if name_eq (codes "pytest_make_parametrize_id") name then Some hook.MakeId
    else None

-- whether a hook has an argument of this name
abbrev pub takes : HookName → List ℕ → Bool
takes hook.SetUp name = name_eq (codes "item") name
takes hook.Call name = name_eq (codes "item") name
takes hook.Teardown name = name_eq (codes "item") name || name_eq (codes "nextitem") name
takes hook.MakeId name = name_eq (codes "val") name || name_eq (codes "argname") name

-- the first of these names that a hook doesn't have
abbrev pub first_untaken : HookName → List (List ℕ) → Option (List ℕ)
first_untaken h [] = None
first_untaken h (name ∷ names) = if takes h name then first_untaken h names else Some name

-- which of the arguments of its hook an argument of this name is
abbrev pub argument_named : List ℕ → Option HookArgument
argument_named name =
    if name_eq (codes "item") name || name_eq (codes "val") name then Some argument.First
    else if name_eq (codes "nextitem") name || name_eq (codes "argname") name then Some argument.Second
    else None

abbrev pub hook_arguments : List (List ℕ) → List HookArgument
hook_arguments names = filter_map argument_named names
