use Rattle.std.proofs.Common.{◌≡◌, map}
use Rattle.collect_tree.specs.Collection.{found_of_asked}
use Rattle.collect_tree.proofs.found.found_files.Given as goal

abbrev pub invariant-loop-one : goal.invariant-loop-one
invariant-loop-one l = l.files ≡ map found_of_asked l.yielded
