-- HOOKS ARE REGISTERED one after another, each in its place of hook order (pluggy's documentation, "Call time order"). The built-in
-- implementations come first, and have the numbers 0 to 3.
use Rattle.std.specs.Prelude.{ℕ, ◌+◌, suc, Bool, true, false, ◌&&◌, ◌||◌, ◌==◌, List, [], ◌∷◌, ◌++◌, length, insert, nat_le, nat_lt, if◌then◌else◌}
use Rattle.hook_order.specs.HookOrder.{class_of, layer_of}
use Rattle.hook_order.specs.declared.implementation.Impl.{Impl}
use Rattle.test_suite.specs.declared.hook.HookTable.{HookTable}
use Rattle.conftest_hooks.specs.declared.hook_name.HookName.{HookName}
use Rattle.conftest_hooks.specs.declared.hook_name.HookName.TheVariants as hook
use Rattle.conftest_hooks.specs.declared.looking.FoundHook.{FoundHook}

-- among one class the latest registered goes first; among trylast it goes last
abbrev pub goes_in_turn : Impl → Impl → Bool
goes_in_turn one other = if class_of one == 2 then nat_le one.registered other.registered else nat_le other.registered one.registered

-- by layer, then by class, then by registration
abbrev pub goes_before : Impl → Impl → Bool
goes_before one other =
    nat_lt (layer_of one) (layer_of other)
    || ((layer_of one == layer_of other) && (nat_lt (class_of one) (class_of other) || ((class_of one == class_of other) && goes_in_turn one other)))

-- how many others it goes behind
abbrev pub place_among : Impl → List Impl → ℕ
place_among which [] = 0
place_among which (other ∷ others) = if goes_before which other then 0 else suc (place_among which others)

abbrev pub put_in_order : Impl → List Impl → List Impl
put_in_order which others = insert others (place_among which others) which

-- THE BUILT-IN IMPLEMENTATIONS: for set-up a tryfirst one that skips, and one that sets up
abbrev pub built_in_impl : ℕ → Bool → Impl
built_in_impl number first = record { registered = number; wrapper = false; first = first; last = false; node = 0; code = 0 }

abbrev pub built_in_hooks : HookTable
built_in_hooks = record {
  hooks = [];
  set_up = built_in_impl 0 true ∷ built_in_impl 1 false ∷ [];
  call = built_in_impl 2 false ∷ [];
  teardown = built_in_impl 3 false ∷ [];
  ids = [];
}

-- a hook with a code: those of conftests are registered behind the built-in ones
abbrev pub hook_impl : ℕ → FoundHook → Impl
hook_impl code h = record { registered = 4 + code; wrapper = h.flags.wrapper; first = h.flags.first; last = h.flags.last; node = 0; code = code }

-- the implementation joins those of its hook
abbrev pub put_under : HookName → Impl → HookTable → HookTable
put_under hook.SetUp which t = record t { set_up = put_in_order which t.set_up }
put_under hook.Call which t = record t { call = put_in_order which t.call }
put_under hook.Teardown which t = record t { teardown = put_in_order which t.teardown }
put_under hook.MakeId which t = record t { ids = put_in_order which t.ids }

abbrev pub with_hook : HookTable → FoundHook → HookTable
with_hook t h = let u = put_under h.name (hook_impl (length t.hooks) h) t in record u { hooks = t.hooks ++ h.hook ∷ [] }

abbrev pub with_hooks : HookTable → List FoundHook → HookTable
with_hooks t [] = t
with_hooks t (h ∷ hs) = with_hooks (with_hook t h) hs

-- THE TABLE of hooks that were found, in order of loading
unfoldable pub hook_table : List FoundHook → HookTable
hook_table hs = with_hooks built_in_hooks hs
