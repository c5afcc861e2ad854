use Rattle.std.proofs.Common.{◌≡◌, ◌++◌, drop}
use Rattle.collect_params.specs.Values.{param_ids_from}
use Rattle.collect_params.proofs.ids.made_param_ids.Given as goal

abbrev pub invariant-loop-number : goal.invariant-loop-number
invariant-loop-number l = l.ids.items ++ param_ids_from l.heap l.name l.number (drop l.number l.sets) ≡ param_ids_from l.heap l.name 0 l.sets
