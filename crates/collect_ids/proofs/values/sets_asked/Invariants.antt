use Rattle.std.proofs.Common.{◌≡◌, drop}
use Rattle.collect_ids.specs.Asking.{asked_behind, sets_asked}
use Rattle.collect_ids.proofs.values.sets_asked.Given as goal

abbrev pub invariant-loop-number : goal.invariant-loop-number
invariant-loop-number l = asked_behind l.ids (sets_asked l.limit l.hooks l.impls l.test l.number l.names (drop l.number l.sets) l.world) ≡ sets_asked l.limit l.hooks l.impls l.test 0 l.names l.sets l.initial.world
