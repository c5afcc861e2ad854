use Rattle.std.proofs.Common.{◌≡◌, ◌≤◌, ◌++◌, drop, length, map}
use Rattle.text_methods.specs.Joins.{chars_of}
use Rattle.text_methods.specs.Pieces.{joined_behind}
use Rattle.text_methods.proofs.joined.values_behind.Given as goal

abbrev pub invariant-loop-v : goal.invariant-loop-v
invariant-loop-v l = record {
  rest : chars_of l.heap l.fn.first ++ joined_behind l.sep (map (chars_of l.heap) l.rest) ≡ l.chars.items ++ joined_behind l.sep (map (chars_of l.heap) (drop l.v-index l.rest));
  short : length l.chars.items ≤ 65536;
}
