use Rattle.std.proofs.Common.{◌≡◌, map, take}
use Rattle.collect_rows.specs.Rows.{param_given}
use Rattle.collect_rows.specs.Seen.{seen_list}
use Rattle.collect_rows.proofs.given.all_params.Given as goal

abbrev pub invariant-loop-def : goal.invariant-loop-def
invariant-loop-def l = l.params ≡ map (param_given l.definitions (map seen_list l.lists)) (take l.def-index l.pairs)
