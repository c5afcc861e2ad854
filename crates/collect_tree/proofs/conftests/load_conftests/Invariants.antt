use Rattle.std.proofs.Common.{◌≡◌, drop}
use Rattle.collect_tree.specs.Conftests.{conftests_loaded}
use Rattle.collect_tree.specs.ConftestsTold.{after_found}
use Rattle.collect_tree.proofs.conftests.load_conftests.Given as goal

abbrev pub invariant-loop-path : goal.invariant-loop-path
invariant-loop-path l = after_found l.loaded (conftests_loaded l.limit (drop l.path-index l.paths) l.world) ≡ conftests_loaded l.limit l.paths l.initial.world
