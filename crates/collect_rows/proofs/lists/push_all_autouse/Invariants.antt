use Rattle.std.proofs.Common.{◌≡◌, ◌++◌, drop}
use Rattle.std.specs.List.{flat_map}
use Rattle.collect_rows.specs.Rows.{autouse_name}
use Rattle.collect_rows.proofs.lists.push_all_autouse.Given as goal

abbrev pub invariant-loop-number : goal.invariant-loop-number
invariant-loop-number l = l.known.items ++ flat_map (autouse_name l.table l.item) (drop l.number l.table.defs) ≡ l.initial.known.items ++ flat_map (autouse_name l.table l.item) l.table.defs
