use Rattle.std.proofs.Common.{◌≡◌, take}
use Rattle.py_tree.specs.Trees.{trees}
use Rattle.py_world.specs.Explained.{kept_count_all}
use Rattle.assert_explain.proofs.counts.+count.Given as goal

abbrev pub invariant-count_all-loop-e : goal.invariant-count_all-loop-e
invariant-count_all-loop-e l = l.n ≡ kept_count_all (trees (take l.e-index l.es))
