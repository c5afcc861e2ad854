use Rattle.std.proofs.Common.{◌≡◌, ◌≤◌, ◌++◌, List, map, take}
use Rattle.std.specs.Prelude.{string_bytes, IfSome}
use Rattle.edge_io.specs.Files.{File, files_of, paths_of, size_limit, tree_most, with_bytes}
use Rattle.edge_io.proofs.files.read_all.Given as goal

abbrev pub invariant-loop-path : goal.invariant-loop-path
invariant-loop-path g l =
    record {
      paths : paths_of (files_of l.pairs.items) ≡ map string_bytes (take l.path-index l.paths);
      read : IfSome (g.T.Tree.files l.fn.tree) (λ fs. files_of l.pairs.items ≡ with_bytes fs (map string_bytes (take l.path-index l.paths)));
      sizes : (rest : List File) → size_limit 0 (files_of l.pairs.items ++ rest) ≡ size_limit l.sum rest;
      small : l.sum ≤ tree_most;
      same : g.T.Tree.files l.tree ≡ g.T.Tree.files l.fn.tree;
      later : g.T.Tree.faults l.fn.tree ≤ g.T.Tree.faults l.tree;
    }
