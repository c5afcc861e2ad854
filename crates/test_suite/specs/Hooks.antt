-- The hooks of a suite.
use Rattle.std.specs.Prelude.{ℕ, [], Option, Some, None, slice_get}
use Rattle.py_values.specs.declared.value.Value.TheVariants as val
use Rattle.py_world.specs.Site.{frame}
use Rattle.test_suite.specs.declared.hook.Hook.{Hook}
use Rattle.test_suite.specs.declared.hook.HookTable.{HookTable}

-- no implementation
abbrev pub no_hooks : HookTable
no_hooks = record { hooks = []; set_up = []; call = []; teardown = []; ids = [] }

-- a hook without function
abbrev pub no_hook : Hook
no_hook = record { function = val.None; arguments = []; folder = []; defined = frame [] 0 [] }

abbrev pub hook_or : Option Hook → Hook
hook_or (Some h) = h
hook_or None = no_hook

abbrev pub hook_with_code : HookTable → ℕ → Option Hook
hook_with_code table code = slice_get table.hooks code

-- THE HOOK with a code; any other number names a hook without function
abbrev pub hook_at : HookTable → ℕ → Hook
hook_at table code = hook_or (hook_with_code table code)
