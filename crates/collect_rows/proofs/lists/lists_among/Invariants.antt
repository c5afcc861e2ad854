use Rattle.std.proofs.Common.{◌≡◌, ◌++◌, drop, map}
use Rattle.std.specs.List.{flat_map}
use Rattle.collect_rows.specs.Rows.{ids_at}
use Rattle.collect_rows.specs.Seen.{seen_list}
use Rattle.collect_rows.proofs.lists.lists_among.Given as goal

abbrev pub invariant-loop-def : goal.invariant-loop-def
invariant-loop-def l = map seen_list l.lists.items ++ flat_map (ids_at l.heap l.definitions) (drop l.def-index l.closure) ≡ flat_map (ids_at l.heap l.definitions) l.closure
