use Rattle.std.proofs.Common.{◌≡◌, map, take}
use Rattle.collect_params.specs.Values.{value_id}
use Rattle.collect_params.proofs.ids.values_ids.Given as goal

abbrev pub invariant-loop-v : goal.invariant-loop-v
invariant-loop-v l = l.ids.items ≡ map (value_id l.heap l.name l.number) (take l.v-index l.values)
