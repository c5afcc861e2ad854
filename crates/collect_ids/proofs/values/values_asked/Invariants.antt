use Rattle.std.proofs.Common.{◌≡◌, drop}
use Rattle.collect_ids.specs.Asking.{asked_behind, values_asked}
use Rattle.collect_ids.proofs.values.values_asked.Given as goal

abbrev pub invariant-loop-at : goal.invariant-loop-at
invariant-loop-at l = asked_behind l.ids (values_asked l.limit l.hooks l.impls l.test l.number (drop l.at l.names) (drop l.at l.values) l.world) ≡ values_asked l.limit l.hooks l.impls l.test l.number l.names l.values l.initial.world
