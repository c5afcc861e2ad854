use Rattle.std.proofs.Common.{◌≡◌, map, take}
use Rattle.collect_rows.specs.Rows.{row_given}
use Rattle.collect_rows.specs.Seen.{seen_list}
use Rattle.collect_rows.proofs.given.rows_given.Given as goal

abbrev pub invariant-loop-row : goal.invariant-loop-row
invariant-loop-row l = l.given ≡ map (row_given l.names l.definitions (map seen_list l.lists)) (take l.row-index l.made)
