use Rattle.std.proofs.Common.{◌≡◌, ◌++◌, drop}
use Rattle.collect_tree.specs.Collection.{conftest_files}
use Rattle.collect_tree.proofs.collection.conftest_files.Given as goal

abbrev pub invariant-loop-at : goal.invariant-loop-at
invariant-loop-at l = l.files.items ++ conftest_files (drop l.at l.places) (drop l.at l.modules) ≡ conftest_files l.places l.modules
