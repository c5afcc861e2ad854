use Rattle.std.proofs.Common.{◌≡◌, ◌++◌, drop}
use Rattle.std.specs.List.{flat_map}
use Rattle.collect_params.specs.Values.{behind_dash}
use Rattle.collect_params.proofs.ids.push_all_behind_dash.Given as goal

abbrev pub invariant-loop-one : goal.invariant-loop-one
invariant-loop-one l = l.id.items ++ flat_map behind_dash (drop l.one-index l.ids) ≡ l.initial.id.items ++ flat_map behind_dash l.ids
