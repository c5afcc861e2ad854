use Rattle.std.proofs.Common.{◌≡◌, ◌≤◌, ◌<◌, ◌+◌, ◌*◌, max, false, length}
use Rattle.py_tree.specs.Trees.{tree}
use Rattle.py_cursor.specs.py_expressions.Sorts.{primary}
use Rattle.py_nodes.specs.Parts.{row_of, pairs_of, args_of, chain_of}
use Rattle.py_expression_parser.specs.Reads.{reads as reads_line, ranked, place_of}
use Rattle.py_expression_parser.specs.Pieces.{items, pairs_more, args_more, links_more, links_place}
use Rattle.py_expression_parser.proofs.Ladder.{more}
use Rattle.py_expression_parser.proofs.Trailers.{trailers}
use Rattle.py_expression_parser.proofs.reader.+expression.Given as goal

abbrev pub decreases-expressions : goal.decreases-expressions
decreases-expressions l = 40 * l.levels + 24

abbrev pub decreases-expression : goal.decreases-expression
decreases-expression l = 40 * l.levels + 23

abbrev pub decreases-negation : goal.decreases-negation
decreases-negation l = 40 * l.levels + 18

abbrev pub decreases-unary : goal.decreases-unary
decreases-unary l = 40 * l.levels + 8

abbrev pub decreases-power : goal.decreases-power
decreases-power l = 40 * l.levels + 7

abbrev pub decreases-primary : goal.decreases-primary
decreases-primary l = 40 * l.levels + 6

abbrev pub decreases-atom : goal.decreases-atom
decreases-atom l = 40 * l.levels + 5

abbrev pub decreases-trailer : goal.decreases-trailer
decreases-trailer l = 40 * l.levels + 4

abbrev pub decreases-other_atom : goal.decreases-other_atom
decreases-other_atom l = 40 * l.levels + 4

abbrev pub decreases-subscript : goal.decreases-subscript
decreases-subscript l = 40 * l.levels + 3

abbrev pub decreases-slice : goal.decreases-slice
decreases-slice l = 40 * l.levels + 2

abbrev pub decreases-bounds : goal.decreases-bounds
decreases-bounds l = 40 * l.levels + 1

abbrev pub decreases-arguments : goal.decreases-arguments
decreases-arguments l = 40 * l.levels + 3

abbrev pub decreases-more_arguments : goal.decreases-more_arguments
decreases-more_arguments l = 40 * l.levels + 2

abbrev pub decreases-argument : goal.decreases-argument
decreases-argument l = 40 * l.levels + 1

abbrev pub decreases-group : goal.decreases-group
decreases-group l = 40 * l.levels + 1

abbrev pub decreases-list : goal.decreases-list
decreases-list l = 40 * l.levels + 2

abbrev pub decreases-items : goal.decreases-items
decreases-items l = 40 * l.levels + 1

abbrev pub decreases-dict : goal.decreases-dict
decreases-dict l = 40 * l.levels + 3

abbrev pub decreases-more_pairs : goal.decreases-more_pairs
decreases-more_pairs l = 40 * l.levels + 2

abbrev pub decreases-pair : goal.decreases-pair
decreases-pair l = 40 * l.levels + 1

abbrev pub decreases-binary : goal.decreases-binary
decreases-binary l = 40 * l.levels + 9 + place_of l.rank

abbrev pub decreases-chained : goal.decreases-chained
decreases-chained l = 40 * l.levels + 17 + links_place l.link

abbrev pub decreases-operand : goal.decreases-operand
decreases-operand l = 40 * l.levels + 16 + links_place l.link

abbrev pub decreases-further : goal.decreases-further
decreases-further l = 40 * l.levels + 1

abbrev pub invariant-binary-loop-token : goal.invariant-binary-loop-token
invariant-binary-loop-token l = record {
  reads : more l.levels l.rank (tree l.left.expr.value, l.left.height) l.p.rest.now ≡ ranked l.levels l.rank l.fn.p.rest.now;
  fits : l.left.height ≤ l.levels;
}

abbrev pub decreases-binary-loop-token : goal.decreases-binary-loop-token
decreases-binary-loop-token l = length l.p.rest.now

abbrev pub invariant-further-loop-link : goal.invariant-further-loop-link
invariant-further-loop-link l = record {
  reads : links_more l.levels l.link (chain_of l.chain, max l.chain.head.height l.chain.more.height) l.p.rest.now ≡ links_more l.levels l.link (chain_of l.fn.chain, max l.fn.chain.head.height l.fn.chain.more.height) l.fn.p.rest.now;
  low : max l.chain.head.height l.chain.more.height < l.levels;
}

abbrev pub decreases-further-loop-link : goal.decreases-further-loop-link
decreases-further-loop-link l = length l.p.rest.now

abbrev pub invariant-items-loop-comma : goal.invariant-items-loop-comma
invariant-items-loop-comma l = record {
  reads : items l.levels (row_of l.row, l.row.all.height) l.p.rest.now ≡ items l.levels (row_of l.fn.row, l.fn.row.all.height) l.fn.p.rest.now;
  unended : l.row.ended ≡ false;
  low : l.row.all.height < l.levels;
}

abbrev pub decreases-items-loop-comma : goal.decreases-items-loop-comma
decreases-items-loop-comma l = length l.p.rest.now

abbrev pub invariant-more_arguments-loop-comma : goal.invariant-more_arguments-loop-comma
invariant-more_arguments-loop-comma l = record {
  reads : args_more l.levels (args_of l.all, l.all.all.height) l.p.rest.now ≡ args_more l.levels (args_of l.fn.first, l.fn.first.all.height) l.fn.p.rest.now;
  unended : l.all.ended ≡ false;
  low : l.all.all.height < l.levels;
}

abbrev pub decreases-more_arguments-loop-comma : goal.decreases-more_arguments-loop-comma
decreases-more_arguments-loop-comma l = length l.p.rest.now

abbrev pub invariant-more_pairs-loop-comma : goal.invariant-more_pairs-loop-comma
invariant-more_pairs-loop-comma l = record {
  reads : pairs_more l.levels (pairs_of l.all, max l.all.names.height l.all.values.height) l.p.rest.now ≡ pairs_more l.levels (pairs_of l.fn.first, max l.fn.first.names.height l.fn.first.values.height) l.fn.p.rest.now;
  unended : l.all.ended ≡ false;
  low : max l.all.names.height l.all.values.height < l.levels;
}

abbrev pub decreases-more_pairs-loop-comma : goal.decreases-more_pairs-loop-comma
decreases-more_pairs-loop-comma l = length l.p.rest.now

abbrev pub invariant-primary-loop-p : goal.invariant-primary-loop-p
invariant-primary-loop-p l = record {
  reads : trailers l.levels (tree l.left.expr.value, l.left.height) l.p.rest.now ≡ reads_line l.levels primary l.fn.p.rest.now;
  fits : l.left.height ≤ l.levels;
}

abbrev pub decreases-primary-loop-p : goal.decreases-primary-loop-p
decreases-primary-loop-p l = length l.p.rest.now
