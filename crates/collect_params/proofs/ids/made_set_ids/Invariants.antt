use Rattle.std.proofs.Common.{◌≡◌, ◌++◌, drop}
use Rattle.collect_params.specs.Values.{set_ids_from}
use Rattle.collect_params.proofs.ids.made_set_ids.Given as goal

abbrev pub invariant-loop-number : goal.invariant-loop-number
invariant-loop-number l = l.ids.items ++ set_ids_from l.heap l.names l.number (drop l.number l.sets) ≡ set_ids_from l.heap l.names 0 l.sets
