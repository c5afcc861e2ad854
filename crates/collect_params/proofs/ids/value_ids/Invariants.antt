use Rattle.std.proofs.Common.{◌≡◌, ◌++◌, drop}
use Rattle.collect_params.specs.Values.{value_ids}
use Rattle.collect_params.proofs.ids.value_ids.Given as goal

abbrev pub invariant-loop-at : goal.invariant-loop-at
invariant-loop-at l = l.ids.items ++ value_ids l.heap l.number (drop l.at l.names) (drop l.at l.values) ≡ value_ids l.heap l.number l.names l.values
