use Rattle.std.proofs.Common.{◌≡◌, map, take}
use Rattle.collect_items.specs.Reads.{file_tests}
use Rattle.collect_items.proofs.reads.all_tests_of.Given as goal

abbrev pub invariant-loop-one : goal.invariant-loop-one
invariant-loop-one l = l.files ≡ map (file_tests l.heap) (take l.one-index l.placed)
