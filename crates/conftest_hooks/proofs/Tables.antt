-- The table of hooks is in hook order.
use Rattle.std.proofs.Common.{List, [], ◌∷◌, inl, inr, refl, arith}
use Rattle.hook_order.specs.declared.implementation.Impl.{Impl}
use Rattle.test_suite.specs.declared.hook.HookTable.{HookTable}
use Rattle.conftest_hooks.proofs.Placed.{put_ordered, ordered_none, ordered_one, ordered_two}
use Rattle.conftest_hooks.specs.Ordered.{AreOrdered}
use Rattle.conftest_hooks.specs.Registered.{built_in_hooks, hook_impl, hook_table, put_under, with_hook, with_hooks}
use Rattle.conftest_hooks.specs.declared.hook_name.HookName.{HookName}
use Rattle.conftest_hooks.specs.declared.hook_name.HookName.TheVariants as hook
use Rattle.conftest_hooks.specs.declared.looking.FoundHook.{FoundHook}
use Rattle.std.specs.Prelude.{length}

built_in_ordered : AreOrdered built_in_hooks
built_in_ordered = record { set_up = ordered_two _ _ (inr (refl, inl (omega arith))); call = ordered_one _; teardown = ordered_one _; ids = ordered_none }

put_under_ordered : (name : HookName) (w : Impl) (t : HookTable) → AreOrdered t → AreOrdered (put_under name w t)
put_under_ordered hook.SetUp w t o = record { set_up = put_ordered w t.set_up o.set_up; call = o.call; teardown = o.teardown; ids = o.ids }
put_under_ordered hook.Call w t o = record { set_up = o.set_up; call = put_ordered w t.call o.call; teardown = o.teardown; ids = o.ids }
put_under_ordered hook.Teardown w t o = record { set_up = o.set_up; call = o.call; teardown = put_ordered w t.teardown o.teardown; ids = o.ids }
put_under_ordered hook.MakeId w t o = record { set_up = o.set_up; call = o.call; teardown = o.teardown; ids = put_ordered w t.ids o.ids }

with_ordered : (h : FoundHook) (t : HookTable) → AreOrdered t → AreOrdered (with_hook t h)
with_ordered h t o = let u = put_under_ordered h.name (hook_impl (length t.hooks) h) t o in record { set_up = u.set_up; call = u.call; teardown = u.teardown; ids = u.ids }

all_ordered : (hs : List FoundHook) (t : HookTable) → AreOrdered t → AreOrdered (with_hooks t hs)
all_ordered [] t o = o
all_ordered (h ∷ hs) t o = all_ordered hs (with_hook t h) (with_ordered h t o)

pub table_ordered : (hs : List FoundHook) → AreOrdered (hook_table hs)
unfolding hook_table
table_ordered hs = all_ordered hs built_in_hooks built_in_ordered
