use Rattle.std.proofs.Common.{◌≡◌, ◌≤◌, ◌++◌, drop, length}
use Rattle.text_methods.specs.Pieces.{joined_behind}
use Rattle.text_methods.proofs.pieces.joined_behind.Given as goal

abbrev pub invariant-loop-piece : goal.invariant-loop-piece
invariant-loop-piece l = record {
  rest : l.first ++ joined_behind l.sep l.pieces ≡ l.chars.items ++ joined_behind l.sep (drop l.piece-index l.pieces);
  short : length l.chars.items ≤ 65536;
}
