use Rattle.std.proofs.Common.{◌≡◌, ◌++◌, drop}
use Rattle.std.specs.List.{flat_map}
use Rattle.collect_rows.specs.Rows.{names_asked_by}
use Rattle.collect_rows.proofs.lists.push_all_asked.Given as goal

abbrev pub invariant-loop-def : goal.invariant-loop-def
invariant-loop-def l = l.known.items ++ flat_map (names_asked_by l.table) (drop l.def-index l.closure) ≡ l.initial.known.items ++ flat_map (names_asked_by l.table) l.closure
