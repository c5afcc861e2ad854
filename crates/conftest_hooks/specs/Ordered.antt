-- The implementations of a table run in hook order, and the runner's own are there.
use Rattle.std.specs.Prelude.{◌≡◌, Bool, true}
use Rattle.std.specs.List.{filter}
use Rattle.hook_order.specs.HookOrder.{InHookOrder}
use Rattle.hook_order.specs.declared.implementation.Impl.{Impl}
use Rattle.session_rules.specs.BuiltIns.{HasBuiltIns, is_runners_own}
use Rattle.session_rules.specs.World.{Call, SetUp, Teardown}
use Rattle.test_suite.specs.declared.hook.HookTable.{HookTable}

pub record AreOrdered (t : HookTable) : Type 0 where
  pub set_up : InHookOrder t.set_up
  pub call : InHookOrder t.call
  pub teardown : InHookOrder t.teardown
  pub ids : InHookOrder t.ids

-- all of the runner's own are kept
abbrev pub KeepsOwn : (Impl → Bool) → Type 0
KeepsOwn keep = (which : Impl) → is_runners_own which ≡ true → keep which ≡ true

-- among those that are kept, each phase has the runner's own, each once
pub record HaveOwn (keep : Impl → Bool) (t : HookTable) : Type 0 where
  pub set_up : HasBuiltIns SetUp (filter keep t.set_up)
  pub call : HasBuiltIns Call (filter keep t.call)
  pub teardown : HasBuiltIns Teardown (filter keep t.teardown)
