use Rattle.std.proofs.Common.{◌≡◌, drop}
use Rattle.collect_ids.specs.Asking.{asked_behind, marks_asked}
use Rattle.collect_ids.proofs.lists.marks_asked.Given as goal

abbrev pub invariant-loop-one : goal.invariant-loop-one
invariant-loop-one l = asked_behind l.marks (marks_asked l.limit l.hooks l.impls l.test l.names (drop l.one-index l.test.parametrized) l.world) ≡ marks_asked l.limit l.hooks l.impls l.test l.names l.test.parametrized l.initial.world
