use Rattle.std.proofs.Common.{◌≡◌, take}
use Rattle.param_rows.specs.Grouping.{keys_of}
use Rattle.param_rows.proofs.grouping.keys_of.Given as goal

abbrev pub invariant-loop-item : goal.invariant-loop-item
invariant-loop-item l = l.keys.items ≡ keys_of l.scope (take l.item-index l.items)
