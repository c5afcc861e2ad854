use Rattle.std.proofs.Common.{◌≡◌, drop}
use Rattle.collect_ids.specs.Asking.{asked_behind, params_asked}
use Rattle.collect_ids.proofs.values.params_asked.Given as goal

abbrev pub invariant-loop-number : goal.invariant-loop-number
invariant-loop-number l = asked_behind l.ids (params_asked l.limit l.hooks l.impls l.test l.number l.name (drop l.number l.sets) l.world) ≡ params_asked l.limit l.hooks l.impls l.test 0 l.name l.sets l.initial.world
