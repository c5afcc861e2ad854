use Rattle.std.proofs.Common.{◌≡◌, ◌++◌, drop}
use Rattle.edge_io.specs.Files.{files_of, paths_of}
use Rattle.collect_tree.proofs.walk.file_paths.Given as goal

abbrev pub invariant-loop-pair : goal.invariant-loop-pair
invariant-loop-pair l = l.paths.items ++ paths_of (files_of (drop l.pair-index l.pairs)) ≡ paths_of (files_of l.pairs)
