use Rattle.std.proofs.Common.{◌≡◌, ◌≤◌, ◌-◌, ◌++◌, drop, length}
use Rattle.text_methods.specs.Pieces.{cut_behind}
use Rattle.text_methods.proofs.pieces.cut.Given as goal

abbrev pub invariant-loop-far : goal.invariant-loop-far
invariant-loop-far l = record {
  rest : cut_behind l.part 0 l.text ≡ l.pieces.items ++ cut_behind l.part 0 (drop l.from l.text);
  within : l.from ≤ length l.text;
}

abbrev pub decreases-loop-far : goal.decreases-loop-far
decreases-loop-far l = length l.text - l.from
