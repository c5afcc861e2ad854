use Rattle.std.proofs.Common.{◌≡◌, drop, map}
use Rattle.collect_rows.specs.Rows.{id_among}
use Rattle.collect_rows.specs.Seen.{seen_list}
use Rattle.collect_rows.proofs.given.id_among.Given as goal

abbrev pub invariant-loop-one : goal.invariant-loop-one
invariant-loop-one l = id_among (map seen_list (drop l.one-index l.lists)) l.def l.number ≡ id_among (map seen_list l.lists) l.def l.number
