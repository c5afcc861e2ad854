use Rattle.std.proofs.Common.{◌≡◌, map, take}
use Rattle.collect_items.specs.Chosen.{param_key}
use Rattle.collect_items.proofs.order.param_keys.Given as goal

abbrev pub invariant-loop-one : goal.invariant-loop-one
invariant-loop-one l = l.keys ≡ map (param_key l.definitions) (take l.one-index l.params)
