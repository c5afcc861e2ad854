use Rattle.std.proofs.Common.{◌≡◌, ◌≤◌, ◌-◌, ◌++◌}
use Rattle.edge_io.specs.Files.{files_of}
use Rattle.generated_tree.specs.Generated.{sequence_number, generated_tests}
use Rattle.generated_tree.proofs.tree.push_tests.Given as goal

abbrev pub invariant-loop-k : goal.invariant-loop-k
invariant-loop-k l = record {
  files : files_of l.pairs.items ++ generated_tests l.seed l.k (l.count - l.k) ≡ files_of l.fn.pairs.items ++ generated_tests l.seed 0 l.count;
  number : l.number ≡ sequence_number l.seed l.k;
  small : l.number ≤ 65535;
}
