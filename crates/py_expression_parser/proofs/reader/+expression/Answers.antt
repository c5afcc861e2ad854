use Rattle.std.proofs.Common.{◌≡◌, ◌-◌, ◌<◌, refl, max, true, false, [], ◌∷◌, sym, ap, ◌∙◌, length, arith}
use Rattle.py_tree.specs.Trees.{tree}
use Rattle.grammar_code.specs.Walk.{starts_with}
use Rattle.py_cursor.specs.token_kinds.Kinds.{kind}
use Rattle.py_cursor.specs.token_kinds.Numbers as k
use Rattle.py_cursor.specs.py_expressions.Sorts.{expr}
use Rattle.py_cursor.specs.py_expressions.Lines.{expr_begins}
use Rattle.py_nodes.specs.Parts.{row_of, pairs_of, args_of, chain_of, maybe_of, high_of}
use Rattle.py_cursor.proofs.Loops.{first_takes, meant_takes}
use Rattle.py_expression_parser.specs.Reads.{operators_of}
use Rattle.py_expression_parser.specs.Pieces.{links_of}
use Rattle.py_expression_parser.proofs.Lines.{takes, room_goes, room_stays, two_goes, two_stays}
use Rattle.py_expression_parser.proofs.Made.{node_reads, args_reads, pairs_reads, part_fails, higher}
use Rattle.py_expression_parser.proofs.Ladder.{more_over, more_deep, more_fails, more_next, rank_takes}
use Rattle.py_expression_parser.proofs.Shapes.{expr_blocked, exprs_blocked, other_blocked, expr_shape, exprs_shape, not_shape, unary_shape, power_shape, atom_shape, exprs_stops, exprs_whole}
use Rattle.py_expression_parser.proofs.Items.{arg_shape, arg_plain, arg_stops, arg_named, arguments_shape, arg_takes, pair_takes, row_end, row_stops, row_goes, args_end, args_fails, args_next, pairs_end, pairs_fails, pairs_next}
use Rattle.py_expression_parser.proofs.Chains.{chained_shape, chained_stops, chained_whole, link_fails, operand_fails, links_next, link_takes}
use Rattle.py_expression_parser.proofs.Trailers.{trailer_shape, slice_shape, bounds_shape, trailers_deep, trailers_fails, trailers_next, trailer_takes}
use Rattle.py_expression_parser.proofs.reader.+expression.Goals as goal

pub expressions-returns-then-levels-eq0-clause-reads : goal.expressions-returns-then-levels-eq0-clause-reads
expressions-returns-then-levels-eq0-clause-reads t c = exprs_blocked c.args.levels c.args.p.now.rest.now c.no_expression.new.p.stop (omega arith) c.no_expression.ensures

pub expressions-returns-in_default-clause-reads : goal.expressions-returns-in_default-clause-reads
expressions-returns-in_default-clause-reads t c = rw (exprs_shape c.args.levels c.args.p.now.rest.now (omega arith)) (part_fails c.expression.new.p.stop _ _ c.in_default.ensures.reads)

pub expressions-returns-then-not-at_op-clause-reads : goal.expressions-returns-then-not-at_op-clause-reads
expressions-returns-then-not-at_op-clause-reads t c = let b : starts_with kind (k.comma ∷ []) c.expression.new.p.rest.now ≡ false = cc in rw (exprs_shape c.args.levels c.args.p.now.rest.now (omega arith), c.in-Some.ensures.reads, b) refl

pub expressions-returns-then-first-levels-clause-reads : goal.expressions-returns-then-first-levels-clause-reads
expressions-returns-then-first-levels-clause-reads t c = let b : starts_with kind (k.comma ∷ []) c.expression.new.p.rest.now ≡ true = cc in rw (c.stop_deep.ensures.stops) (rw (exprs_shape c.args.levels c.args.p.now.rest.now (omega arith), c.in-Some.ensures.reads, b, room_stays c.args.levels c.in-Some.first.height c.in-Some.first.some (omega arith)) refl)

pub expressions-returns-in_default-made-clause-reads : goal.expressions-returns-in_default-made-clause-reads
expressions-returns-in_default-made-clause-reads t c = rw (c.in_default-made.ensures.makes) tt

pub expressions-returns-in_default-items-clause-reads : goal.expressions-returns-in_default-items-clause-reads
expressions-returns-in_default-items-clause-reads t c = let b : starts_with kind (k.comma ∷ []) c.expression.new.p.rest.now ≡ true = cc in exprs_stops c.args.levels c.args.p.now.rest.now (tree c.in-Some.first.expr.value) c.in-Some.first.height c.expression.new.p.rest.now (row_of c.in-Some-made.row) c.in-Some-made.row.all.height c.items.new.p.stop c.in-Some.first.some (omega arith) c.in-Some.ensures.reads b (rw c.in-Some-made.ensures.makes.0 at c.first_item.ensures.row) (rw c.in-Some-made.ensures.makes.0 at c.first_item.ensures.height) (rw c.in-Some-made.ensures.makes.1 at c.in_default-items.ensures.reads)

pub expressions-returns-clause-reads : goal.expressions-returns-clause-reads
expressions-returns-clause-reads t c = let b : starts_with kind (k.comma ∷ []) c.expression.new.p.rest.now ≡ true = cc in node_reads c.tuple_node.result c.items.new.p.rest.now c.made-2.result c.made-2.new.self _ _ _ c.made-2.ensures.makes c.tuple_node.ensures.tree c.tuple_node.ensures.height (exprs_whole c.args.levels c.args.p.now.rest.now (tree c.in-Some.first.expr.value) c.in-Some.first.height c.expression.new.p.rest.now (row_of c.in-Some-made.row) c.in-Some-made.row.all.height (row_of c.in-Some-items.row) c.in-Some-items.row.all.height c.items.new.p.rest.now _ _ c.in-Some.first.some (omega arith) c.in-Some.ensures.reads b (rw c.in-Some-made.ensures.makes.0 at c.first_item.ensures.row) (rw c.in-Some-made.ensures.makes.0 at c.first_item.ensures.height) (rw c.in-Some-made.ensures.makes.1 at c.in-Some-items.ensures.reads) refl refl)

pub items-returns-then-not-begins_expression-clause-reads : goal.items-returns-then-not-begins_expression-clause-reads
items-returns-then-not-begins_expression-clause-reads t c = let b : starts_with kind expr_begins c.take_op.new.self.rest.now ≡ false = cc in row_end c.args.levels (row_of c.loop-comma.row, c.loop-comma.row.all.height) c.loop-comma.p.rest.now c.in-Some._comma.now c.take_op.new.self.rest.now (row_of c.end_row.result) c.end_row.result.all.height _ c.loop-comma.invariant.unended c.in-Some.ensures b c.end_row.ensures.row c.end_row.ensures.height c.loop-comma.invariant.reads

pub items-returns-in_default-expression-clause-reads : goal.items-returns-in_default-expression-clause-reads
items-returns-in_default-expression-clause-reads t c = let b : starts_with kind expr_begins c.take_op.new.self.rest.now ≡ true = cc in row_stops c.args.levels (row_of c.loop-comma.row, c.loop-comma.row.all.height) c.loop-comma.p.rest.now c.in-Some._comma.now c.take_op.new.self.rest.now c.expression.new.p.stop _ c.loop-comma.invariant.unended c.in-Some.ensures b c.in_default-expression.ensures.reads c.loop-comma.invariant.reads

pub items-returns-in_default-made-clause-reads : goal.items-returns-in_default-made-clause-reads
items-returns-in_default-made-clause-reads t c = rw (c.in_default-made.ensures.makes) tt

pub items-loop-comma-smaller : goal.items-loop-comma-smaller
items-loop-comma-smaller t c = omega (arith, ap length c.in-Some-made.ensures.makes.1, first_takes (k.comma ∷ []) c.loop-comma.p.rest.now c.in-Some._comma.now c.take_op.new.self.rest.now c.in-Some.ensures, takes (c.args.levels - 1) expr c.take_op.new.self.rest.now (tree c.in-Some-expression.next.expr.value, c.in-Some-expression.next.height) c.expression.new.p.rest.now c.in-Some-expression.ensures.reads)

pub items-loop-comma-preserved : goal.items-loop-comma-preserved
items-loop-comma-preserved t c = let b : starts_with kind expr_begins c.take_op.new.self.rest.now ≡ true = cc in let r = rw c.in-Some-made.ensures.makes.0 at c.add_item.ensures.row in let h = rw c.in-Some-made.ensures.makes.0 at c.add_item.ensures.height in record {
  reads = rw (c.in-Some-made.ensures.makes.1) (row_goes c.args.levels (row_of c.loop-comma.row, c.loop-comma.row.all.height) c.loop-comma.p.rest.now c.in-Some._comma.now c.take_op.new.self.rest.now (tree c.in-Some-expression.next.expr.value, c.in-Some-expression.next.height) c.expression.new.p.rest.now (row_of c.in-Some-made.more) c.in-Some-made.more.all.height _ c.loop-comma.invariant.unended c.in-Some.ensures b c.in-Some-expression.ensures.reads r h c.loop-comma.invariant.reads);
  unended = ap (λ r. r.ended) r;
  low = omega (arith, c.in-Some-expression.ensures.fits, h, c.loop-comma.invariant.low);
}

pub expression-returns-then-levels-eq0-clause-reads : goal.expression-returns-then-levels-eq0-clause-reads
expression-returns-then-levels-eq0-clause-reads t c = expr_blocked c.args.levels c.args.p.now.rest.now c.no_expression.new.p.stop (omega arith) c.no_expression.ensures

pub expression-returns-in_default-clause-reads : goal.expression-returns-in_default-clause-reads
expression-returns-in_default-clause-reads t c = rw (expr_shape c.args.levels c.args.p.now.rest.now (omega arith)) (part_fails c.chained.new.p.stop _ _ c.in_default.ensures.reads)

pub expression-returns-in_default-take_op-clause-reads : goal.expression-returns-in_default-take_op-clause-reads
expression-returns-in_default-take_op-clause-reads t c = rw (c.in_default-take_op.ensures.1, expr_shape c.args.levels c.args.p.now.rest.now (omega arith), c.in-Some.ensures.reads, c.in_default-take_op.ensures.0) refl

pub expression-returns-then-value-levels-clause-reads : goal.expression-returns-then-value-levels-clause-reads
expression-returns-then-value-levels-clause-reads t c = rw (c.stop_deep.ensures.stops) (rw (expr_shape c.args.levels c.args.p.now.rest.now (omega arith), c.in-Some.ensures.reads, c.in-Some-take_op.ensures, room_stays c.args.levels c.in-Some.value.height c.in-Some.value.some (omega arith)) refl)

pub expression-returns-in_default-chained-clause-reads : goal.expression-returns-in_default-chained-clause-reads
expression-returns-in_default-chained-clause-reads t c = rw (expr_shape c.args.levels c.args.p.now.rest.now (omega arith), c.in-Some.ensures.reads, c.in-Some-take_op.ensures, room_goes c.args.levels c.in-Some.value.height c.in-Some.value.some (omega arith)) (part_fails c.chained-2.new.p.stop _ _ c.in_default-chained.ensures.reads)

pub expression-returns-in_default-expect_op-clause-reads : goal.expression-returns-in_default-expect_op-clause-reads
expression-returns-in_default-expect_op-clause-reads t c = rw (expr_shape c.args.levels c.args.p.now.rest.now (omega arith), c.in-Some.ensures.reads, c.in-Some-take_op.ensures, room_goes c.args.levels c.in-Some.value.height c.in-Some.value.some (omega arith), c.in-Some-chained.ensures.reads) (part_fails c.expect_op.new.self.stop _ _ c.in_default-expect_op.ensures)

pub expression-returns-in_default-expression-clause-reads : goal.expression-returns-in_default-expression-clause-reads
expression-returns-in_default-expression-clause-reads t c = rw (expr_shape c.args.levels c.args.p.now.rest.now (omega arith), c.in-Some.ensures.reads, c.in-Some-take_op.ensures, room_goes c.args.levels c.in-Some.value.height c.in-Some.value.some (omega arith), c.in-Some-chained.ensures.reads, c.in-Some-expect_op.ensures) (part_fails c.expression.new.p.stop _ _ c.in_default-expression.ensures.reads)

pub expression-returns-clause-reads : goal.expression-returns-clause-reads
expression-returns-clause-reads t c = node_reads c.if_else_node.result c.expression.new.p.rest.now c.made.result c.made.new.self _ _ _ c.made.ensures.makes c.if_else_node.ensures.tree c.if_else_node.ensures.height (rw (expr_shape c.args.levels c.args.p.now.rest.now (omega arith), c.in-Some.ensures.reads, c.in-Some-take_op.ensures, room_goes c.args.levels c.in-Some.value.height c.in-Some.value.some (omega arith), c.in-Some-chained.ensures.reads, c.in-Some-expect_op.ensures, c.in-Some-expression.ensures.reads) refl)

pub chained-returns-in_default-clause-reads : goal.chained-returns-in_default-clause-reads
chained-returns-in_default-clause-reads t c = rw (chained_shape c.args.levels c.args.link c.args.p.now.rest.now c.requires.some) (part_fails c.operand.new.p.stop _ _ c.in_default.ensures.reads)

pub chained-returns-then-not-begins_link-clause-reads : goal.chained-returns-then-not-begins_link-clause-reads
chained-returns-then-not-begins_link-clause-reads t c = let b : starts_with kind (links_of c.args.link) c.operand.new.p.rest.now ≡ false = cc in rw (chained_shape c.args.levels c.args.link c.args.p.now.rest.now c.requires.some, c.in-Some.ensures.reads, b) refl

pub chained-returns-then-first-levels-clause-reads : goal.chained-returns-then-first-levels-clause-reads
chained-returns-then-first-levels-clause-reads t c = let b : starts_with kind (links_of c.args.link) c.operand.new.p.rest.now ≡ true = cc in rw (c.stop_deep.ensures.stops) (rw (chained_shape c.args.levels c.args.link c.args.p.now.rest.now c.requires.some, c.in-Some.ensures.reads, b, room_stays c.args.levels c.in-Some.first.height c.in-Some.first.some (omega arith)) refl)

pub chained-returns-in_default-further-clause-reads : goal.chained-returns-in_default-further-clause-reads
chained-returns-in_default-further-clause-reads t c = let b : starts_with kind (links_of c.args.link) c.operand.new.p.rest.now ≡ true = cc in chained_stops c.args.levels c.args.link c.args.p.now.rest.now (tree c.in-Some.first.expr.value, c.in-Some.first.height) c.operand.new.p.rest.now (chain_of c.chain_of.result) (max c.chain_of.result.head.height c.chain_of.result.more.height) c.further.new.p.stop c.in-Some.first.some (omega arith) c.in-Some.ensures.reads b c.chain_of.ensures.chain (omega (arith, c.chain_of.ensures.head, c.chain_of.ensures.more)) c.in_default-further.ensures.reads

pub chained-returns-clause-reads : goal.chained-returns-clause-reads
chained-returns-clause-reads t c = let b : starts_with kind (links_of c.args.link) c.operand.new.p.rest.now ≡ true = cc in node_reads c.chain_node.result c.further.new.p.rest.now c.made.result c.made.new.self _ _ _ c.made.ensures.makes c.chain_node.ensures.tree c.chain_node.ensures.height (chained_whole c.args.levels c.args.link c.args.p.now.rest.now (tree c.in-Some.first.expr.value, c.in-Some.first.height) c.operand.new.p.rest.now (chain_of c.chain_of.result) (max c.chain_of.result.head.height c.chain_of.result.more.height) (chain_of c.in-Some-further.chain) (max c.in-Some-further.chain.head.height c.in-Some-further.chain.more.height) c.further.new.p.rest.now c.in-Some.first.some (omega arith) c.in-Some.ensures.reads b c.chain_of.ensures.chain (omega (arith, c.chain_of.ensures.head, c.chain_of.ensures.more)) c.in-Some-further.ensures.reads)

pub further-returns-in_default-clause-reads : goal.further-returns-in_default-clause-reads
further-returns-in_default-clause-reads t c = let b : starts_with kind (links_of c.args.link) c.loop-link.p.rest.now ≡ true = cc in link_fails c.args.levels c.args.link (chain_of c.loop-link.chain, max c.loop-link.chain.head.height c.loop-link.chain.more.height) c.loop-link.p.rest.now c.link_at.new.p.stop _ b c.in_default.ensures c.loop-link.invariant.reads

pub further-returns-in_default-operand-clause-reads : goal.further-returns-in_default-operand-clause-reads
further-returns-in_default-operand-clause-reads t c = let b : starts_with kind (links_of c.args.link) c.loop-link.p.rest.now ≡ true = cc in operand_fails c.args.levels c.args.link (chain_of c.loop-link.chain, max c.loop-link.chain.head.height c.loop-link.chain.more.height) c.loop-link.p.rest.now c.in-Some.op c.link_at.new.p.rest.now c.operand.new.p.stop _ b c.in-Some.ensures c.in_default-operand.ensures.reads c.loop-link.invariant.reads

pub further-returns-in_default-made-clause-reads : goal.further-returns-in_default-made-clause-reads
further-returns-in_default-made-clause-reads t c = rw (c.in_default-made.ensures.makes) tt

pub further-loop-link-smaller : goal.further-loop-link-smaller
further-loop-link-smaller t c = omega (arith, ap length c.in-Some-made.ensures.makes.1, link_takes c.args.levels c.args.link (chain_of c.loop-link.chain, max c.loop-link.chain.head.height c.loop-link.chain.more.height) c.loop-link.p.rest.now c.in-Some.op c.link_at.new.p.rest.now (tree c.in-Some-operand.next.expr.value, c.in-Some-operand.next.height) c.operand.new.p.rest.now c.in-Some.ensures c.in-Some-operand.ensures.reads)

pub further-loop-link-preserved : goal.further-loop-link-preserved
further-loop-link-preserved t c = let b : starts_with kind (links_of c.args.link) c.loop-link.p.rest.now ≡ true = cc in let q = rw c.in-Some-made.ensures.makes.0 at c.add_operand.ensures.chain in let h = rw c.in-Some-made.ensures.makes.0 at c.add_operand.ensures.head in let l = rw c.in-Some-made.ensures.makes.0 at c.add_operand.ensures.more in record {
  reads = rw (c.in-Some-made.ensures.makes.1) (links_next c.args.levels c.args.link (chain_of c.loop-link.chain, max c.loop-link.chain.head.height c.loop-link.chain.more.height) c.loop-link.p.rest.now c.in-Some.op c.link_at.new.p.rest.now (tree c.in-Some-operand.next.expr.value, c.in-Some-operand.next.height) c.operand.new.p.rest.now (chain_of c.in-Some-made.more) (max c.in-Some-made.more.head.height c.in-Some-made.more.more.height) _ b c.in-Some.ensures c.in-Some-operand.ensures.reads q (omega (arith, h, l)) c.loop-link.invariant.reads);
  low = omega (arith, c.in-Some-operand.ensures.fits, h, l, c.loop-link.invariant.low);
}

pub negation-returns-in_default-clause-reads : goal.negation-returns-in_default-clause-reads
negation-returns-in_default-clause-reads t c = rw (not_shape c.args.levels c.args.p.now.rest.now c.requires.some, c.in_default.ensures.0, sym c.in_default.ensures.1) c.chained.ensures.reads

pub negation-returns-then-levels-lt2-clause-reads : goal.negation-returns-then-levels-lt2-clause-reads
negation-returns-then-levels-lt2-clause-reads t c = rw (c.stop_deep.ensures.stops) (rw (not_shape c.args.levels c.args.p.now.rest.now c.requires.some, c.in-Some.ensures, two_stays c.args.levels (omega arith)) refl)

pub negation-returns-in_default-negation-clause-reads : goal.negation-returns-in_default-negation-clause-reads
negation-returns-in_default-negation-clause-reads t c = rw (not_shape c.args.levels c.args.p.now.rest.now c.requires.some, c.in-Some.ensures, two_goes c.args.levels (omega arith)) (part_fails c.negation.new.p.stop _ _ c.in_default-negation.ensures.reads)

pub negation-returns-clause-reads : goal.negation-returns-clause-reads
negation-returns-clause-reads t c = node_reads c.not_node.result c.negation.new.p.rest.now c.made.result c.made.new.self _ _ _ c.made.ensures.makes c.not_node.ensures.tree c.not_node.ensures.height (rw (not_shape c.args.levels c.args.p.now.rest.now c.requires.some, c.in-Some.ensures, two_goes c.args.levels (omega arith), c.in-Some-negation.ensures.reads) refl)

pub unary-returns-in_default-clause-reads : goal.unary-returns-in_default-clause-reads
unary-returns-in_default-clause-reads t c = rw (unary_shape c.args.levels c.args.p.now.rest.now c.requires.some, c.in_default.ensures.0, sym c.in_default.ensures.1) c.power.ensures.reads

pub unary-returns-then-levels-lt2-clause-reads : goal.unary-returns-then-levels-lt2-clause-reads
unary-returns-then-levels-lt2-clause-reads t c = rw (c.stop_deep.ensures.stops) (rw (unary_shape c.args.levels c.args.p.now.rest.now c.requires.some, c.in-Some.ensures, two_stays c.args.levels (omega arith)) refl)

pub unary-returns-in_default-unary-clause-reads : goal.unary-returns-in_default-unary-clause-reads
unary-returns-in_default-unary-clause-reads t c = rw (unary_shape c.args.levels c.args.p.now.rest.now c.requires.some, c.in-Some.ensures, two_goes c.args.levels (omega arith)) (part_fails c.unary.new.p.stop _ _ c.in_default-unary.ensures.reads)

pub unary-returns-clause-reads : goal.unary-returns-clause-reads
unary-returns-clause-reads t c = node_reads c.unary_node.result c.unary.new.p.rest.now c.made.result c.made.new.self _ _ _ c.made.ensures.makes c.unary_node.ensures.tree c.unary_node.ensures.height (rw (unary_shape c.args.levels c.args.p.now.rest.now c.requires.some, c.in-Some.ensures, two_goes c.args.levels (omega arith), c.in-Some-unary.ensures.reads) refl)

pub binary-returns-in_default-take_operator-clause-reads : goal.binary-returns-in_default-take_operator-clause-reads
binary-returns-in_default-take_operator-clause-reads t c = rw (c.in_default-take_operator.ensures.1) (sym c.loop-token.invariant.reads ∙ more_over c.args.levels c.args.rank (tree c.loop-token.left.expr.value, c.loop-token.left.height) c.loop-token.p.rest.now c.in_default-take_operator.ensures.0)

pub binary-returns-then-left-levels-clause-reads : goal.binary-returns-then-left-levels-clause-reads
binary-returns-then-left-levels-clause-reads t c = rw (c.stop_deep.ensures.stops) (more_deep c.args.levels c.args.rank (tree c.loop-token.left.expr.value, c.loop-token.left.height) c.loop-token.p.rest.now (c.in-Some-take_operator._token.now, c.in-Some-take_operator.op) c.take_operator.new.p.rest.now _ c.loop-token.left.some (omega arith) c.in-Some-take_operator.ensures c.loop-token.invariant.reads)

pub binary-returns-in_default-binary-2-clause-reads : goal.binary-returns-in_default-binary-2-clause-reads
binary-returns-in_default-binary-2-clause-reads t c = more_fails c.args.levels c.args.rank c.lower-in-loop-token.result (tree c.loop-token.left.expr.value, c.loop-token.left.height) c.loop-token.p.rest.now (c.in-Some-take_operator._token.now, c.in-Some-take_operator.op) c.take_operator.new.p.rest.now c.binary-in-loop-token.new.p.stop _ c.lower-in-loop-token.ensures c.loop-token.left.some (omega arith) c.in-Some-take_operator.ensures c.in_default-binary-2.ensures.reads c.loop-token.invariant.reads

pub binary-returns-in_default-made-clause-reads : goal.binary-returns-in_default-made-clause-reads
binary-returns-in_default-made-clause-reads t c = rw (c.in_default-made.ensures.makes) tt

pub binary-loop-token-smaller : goal.binary-loop-token-smaller
binary-loop-token-smaller t c = omega (arith, ap length c.in-Some-made.ensures.makes.1, meant_takes (operators_of c.args.rank) c.loop-token.p.rest.now (c.in-Some-take_operator._token.now, c.in-Some-take_operator.op) c.take_operator.new.p.rest.now c.in-Some-take_operator.ensures, rank_takes (c.args.levels - 1) c.lower-in-loop-token.result c.take_operator.new.p.rest.now (tree c.in-Some-binary.right.expr.value, c.in-Some-binary.right.height) c.binary-in-loop-token.new.p.rest.now c.in-Some-binary.ensures.reads)

pub binary-loop-token-preserved : goal.binary-loop-token-preserved
binary-loop-token-preserved t c = let q = rw c.in-Some-made.ensures.makes.0 at c.binary_node.ensures.tree in let h = rw c.in-Some-made.ensures.makes.0 at c.binary_node.ensures.height in record {
  reads = rw (c.in-Some-made.ensures.makes.1) (more_next c.args.levels c.args.rank c.lower-in-loop-token.result (tree c.loop-token.left.expr.value, c.loop-token.left.height) c.loop-token.p.rest.now (c.in-Some-take_operator._token.now, c.in-Some-take_operator.op) c.take_operator.new.p.rest.now (tree c.in-Some-binary.right.expr.value, c.in-Some-binary.right.height) c.binary-in-loop-token.new.p.rest.now (tree c.in-Some-made.whole.expr.value) c.in-Some-made.whole.height _ c.lower-in-loop-token.ensures c.loop-token.left.some (omega arith) c.in-Some-take_operator.ensures c.in-Some-binary.ensures.reads q h c.loop-token.invariant.reads);
  fits = omega (arith, c.in-Some-binary.ensures.fits, h);
}

pub power-returns-in_default-clause-reads : goal.power-returns-in_default-clause-reads
power-returns-in_default-clause-reads t c = rw (power_shape c.args.levels c.args.p.now.rest.now c.requires.some) (part_fails c.primary.new.p.stop _ _ c.in_default.ensures.reads)

pub power-returns-in_default-take_op-clause-reads : goal.power-returns-in_default-take_op-clause-reads
power-returns-in_default-take_op-clause-reads t c = rw (c.in_default-take_op.ensures.1, power_shape c.args.levels c.args.p.now.rest.now c.requires.some, c.in-Some.ensures.reads, c.in_default-take_op.ensures.0) refl

pub power-returns-then-left-levels-clause-reads : goal.power-returns-then-left-levels-clause-reads
power-returns-then-left-levels-clause-reads t c = rw (c.stop_deep.ensures.stops) (rw (power_shape c.args.levels c.args.p.now.rest.now c.requires.some, c.in-Some.ensures.reads, c.in-Some-take_op.ensures, room_stays c.args.levels c.in-Some.left.height c.in-Some.left.some (omega arith)) refl)

pub power-returns-in_default-unary-clause-reads : goal.power-returns-in_default-unary-clause-reads
power-returns-in_default-unary-clause-reads t c = rw (power_shape c.args.levels c.args.p.now.rest.now c.requires.some, c.in-Some.ensures.reads, c.in-Some-take_op.ensures, room_goes c.args.levels c.in-Some.left.height c.in-Some.left.some (omega arith)) (part_fails c.unary.new.p.stop _ _ c.in_default-unary.ensures.reads)

pub power-returns-clause-reads : goal.power-returns-clause-reads
power-returns-clause-reads t c = node_reads c.binary_node.result c.unary.new.p.rest.now c.made.result c.made.new.self _ _ _ c.made.ensures.makes c.binary_node.ensures.tree c.binary_node.ensures.height (rw (power_shape c.args.levels c.args.p.now.rest.now c.requires.some, c.in-Some.ensures.reads, c.in-Some-take_op.ensures, room_goes c.args.levels c.in-Some.left.height c.in-Some.left.some (omega arith), c.in-Some-unary.ensures.reads) refl)

pub primary-returns-then-left-levels-clause-reads : goal.primary-returns-then-left-levels-clause-reads
primary-returns-then-left-levels-clause-reads t c = let b : starts_with kind (k.dot ∷ k.left_paren ∷ k.left_bracket ∷ []) c.loop-p.p.rest.now ≡ true = cc in rw (c.stop_deep.ensures.stops) (trailers_deep c.args.levels (tree c.loop-p.left.expr.value, c.loop-p.left.height) c.loop-p.p.rest.now _ c.loop-p.left.some (omega arith) b c.loop-p.invariant.reads)

pub primary-returns-in_default-trailer-clause-reads : goal.primary-returns-in_default-trailer-clause-reads
primary-returns-in_default-trailer-clause-reads t c = let b : starts_with kind (k.dot ∷ k.left_paren ∷ k.left_bracket ∷ []) c.loop-p.p.rest.now ≡ true = cc in trailers_fails c.args.levels (tree c.loop-p.left.expr.value, c.loop-p.left.height) c.loop-p.p.rest.now c.trailer.new.p.stop _ c.loop-p.left.some (omega arith) b c.in_default-trailer.ensures.reads c.loop-p.invariant.reads

pub primary-loop-p-smaller : goal.primary-loop-p-smaller
primary-loop-p-smaller t c = trailer_takes c.args.levels (tree c.loop-p.left.expr.value, c.loop-p.left.height) c.loop-p.p.rest.now (tree c.in-Some-trailer.whole.expr.value, c.in-Some-trailer.whole.height) c.trailer.new.p.rest.now c.in-Some-trailer.ensures.reads

pub primary-loop-p-preserved : goal.primary-loop-p-preserved
primary-loop-p-preserved t c = let b : starts_with kind (k.dot ∷ k.left_paren ∷ k.left_bracket ∷ []) c.loop-p.p.rest.now ≡ true = cc in record {
  reads = trailers_next c.args.levels (tree c.loop-p.left.expr.value, c.loop-p.left.height) c.loop-p.p.rest.now (tree c.in-Some-trailer.whole.expr.value, c.in-Some-trailer.whole.height) c.trailer.new.p.rest.now _ c.loop-p.left.some (omega arith) b c.in-Some-trailer.ensures.reads c.loop-p.invariant.reads;
  fits = c.in-Some-trailer.ensures.fits;
}

pub trailer-returns-in-Some-clause-reads : goal.trailer-returns-in-Some-clause-reads
trailer-returns-in-Some-clause-reads t c = rw (trailer_shape c.args.levels (tree c.args.of.expr.value, c.args.of.height) c.args.p.now.rest.now, c.in-Some.ensures) c.attribute.ensures.reads

pub trailer-returns-in_default-arguments-clause-reads : goal.trailer-returns-in_default-arguments-clause-reads
trailer-returns-in_default-arguments-clause-reads t c = let b : starts_with kind (k.left_paren ∷ []) c.take_op.new.self.rest.now ≡ true = cc in rw (trailer_shape c.args.levels (tree c.args.of.expr.value, c.args.of.height) c.args.p.now.rest.now, c.in_default.ensures.0, sym c.in_default.ensures.1, b) (part_fails c.arguments.new.p.stop _ _ c.in_default-arguments.ensures.reads)

pub trailer-returns-then-at_op-clause-reads : goal.trailer-returns-then-at_op-clause-reads
trailer-returns-then-at_op-clause-reads t c = let b : starts_with kind (k.left_paren ∷ []) c.take_op.new.self.rest.now ≡ true = cc in node_reads c.call_node.result c.arguments.new.p.rest.now c.made.result c.made.new.self _ _ _ c.made.ensures.makes c.call_node.ensures.tree c.call_node.ensures.height (rw (trailer_shape c.args.levels (tree c.args.of.expr.value, c.args.of.height) c.args.p.now.rest.now, c.in_default.ensures.0, sym c.in_default.ensures.1, b, c.in-Some-arguments.ensures.reads) (higher _ _ _ _ (omega arith)))

pub trailer-returns-in_default-expect_op-clause-reads : goal.trailer-returns-in_default-expect_op-clause-reads
trailer-returns-in_default-expect_op-clause-reads t c = let b : starts_with kind (k.left_paren ∷ []) c.take_op.new.self.rest.now ≡ false = cc in rw (trailer_shape c.args.levels (tree c.args.of.expr.value, c.args.of.height) c.args.p.now.rest.now, c.in_default.ensures.0, sym c.in_default.ensures.1, b) (part_fails c.expect_op.new.self.stop _ _ c.in_default-expect_op.ensures)

pub trailer-returns-clause-reads : goal.trailer-returns-clause-reads
trailer-returns-clause-reads t c = let b : starts_with kind (k.left_paren ∷ []) c.take_op.new.self.rest.now ≡ false = cc in rw (trailer_shape c.args.levels (tree c.args.of.expr.value, c.args.of.height) c.args.p.now.rest.now, c.in_default.ensures.0, sym c.in_default.ensures.1, b, c.in-Some-expect_op.ensures) c.subscript.ensures.reads

pub subscript-returns-in_default-clause-reads : goal.subscript-returns-in_default-clause-reads
subscript-returns-in_default-clause-reads t c = let b : starts_with kind (k.colon ∷ []) c.args.p.now.rest.now ≡ true = cc in rw (b) (part_fails c.slice.new.p.stop _ _ c.in_default.ensures.reads)

pub subscript-returns-then-at_op-clause-reads : goal.subscript-returns-then-at_op-clause-reads
subscript-returns-then-at_op-clause-reads t c = let b : starts_with kind (k.colon ∷ []) c.args.p.now.rest.now ≡ true = cc in node_reads c.slice_node.result c.slice.new.p.rest.now c.made.result c.made.new.self _ _ _ c.made.ensures.makes c.slice_node.ensures.tree c.slice_node.ensures.height (rw (b, c.in-Some.ensures.reads) (higher _ _ _ _ (omega arith)))

pub subscript-returns-in_default-expression-clause-reads : goal.subscript-returns-in_default-expression-clause-reads
subscript-returns-in_default-expression-clause-reads t c = let b : starts_with kind (k.colon ∷ []) c.args.p.now.rest.now ≡ false = cc in rw (b) (part_fails c.expression.new.p.stop _ _ c.in_default-expression.ensures.reads)

pub subscript-returns-in-Some-take_op-clause-reads : goal.subscript-returns-in-Some-take_op-clause-reads
subscript-returns-in-Some-take_op-clause-reads t c = let b : starts_with kind (k.colon ∷ []) c.args.p.now.rest.now ≡ false = cc in node_reads c.subscript_node.result c.take_op.new.self.rest.now c.made-in-Some-take_op.result c.made-in-Some-take_op.new.self _ _ _ c.made-in-Some-take_op.ensures.makes c.subscript_node.ensures.tree c.subscript_node.ensures.height (rw (b, c.in-Some-expression.ensures.reads, c.in-Some-take_op.ensures) refl)

pub subscript-returns-in_default-slice-clause-reads : goal.subscript-returns-in_default-slice-clause-reads
subscript-returns-in_default-slice-clause-reads t c = let b : starts_with kind (k.colon ∷ []) c.args.p.now.rest.now ≡ false = cc in rw (b, c.in-Some-expression.ensures.reads, c.in_default-take_op.ensures.0, sym c.in_default-take_op.ensures.1) (part_fails c.slice-2.new.p.stop _ _ c.in_default-slice.ensures.reads)

pub subscript-returns-clause-reads : goal.subscript-returns-clause-reads
subscript-returns-clause-reads t c = let b : starts_with kind (k.colon ∷ []) c.args.p.now.rest.now ≡ false = cc in node_reads c.slice_node-2.result c.slice-2.new.p.rest.now c.made-2.result c.made-2.new.self _ _ _ c.made-2.ensures.makes c.slice_node-2.ensures.tree c.slice_node-2.ensures.height (rw (b, c.in-Some-expression.ensures.reads, c.in_default-take_op.ensures.0, sym c.in_default-take_op.ensures.1, c.in-Some-slice.ensures.reads) (higher _ _ _ _ (omega arith)))

pub slice-returns-in_default-clause-reads : goal.slice-returns-in_default-clause-reads
slice-returns-in_default-clause-reads t c = rw (slice_shape c.args.levels c.args.p.now.rest.now c.requires.some) (part_fails c.expect_op.new.self.stop _ _ c.in_default.ensures)

pub slice-returns-then-lacks_bound-clause-reads : goal.slice-returns-then-lacks_bound-clause-reads
slice-returns-then-lacks_bound-clause-reads t c = let b : starts_with kind (k.right_bracket ∷ k.colon ∷ []) c.expect_op.new.self.rest.now ≡ true = cc in rw (slice_shape c.args.levels c.args.p.now.rest.now c.requires.some, c.in-Some.ensures, b) c.bounds.ensures.reads

pub slice-returns-in_default-expression-clause-reads : goal.slice-returns-in_default-expression-clause-reads
slice-returns-in_default-expression-clause-reads t c = let b : starts_with kind (k.right_bracket ∷ k.colon ∷ []) c.expect_op.new.self.rest.now ≡ false = cc in rw (slice_shape c.args.levels c.args.p.now.rest.now c.requires.some, c.in-Some.ensures, b) (part_fails c.expression.new.p.stop _ _ c.in_default-expression.ensures.reads)

pub slice-returns-clause-reads : goal.slice-returns-clause-reads
slice-returns-clause-reads t c = let b : starts_with kind (k.right_bracket ∷ k.colon ∷ []) c.expect_op.new.self.rest.now ≡ false = cc in rw (slice_shape c.args.levels c.args.p.now.rest.now c.requires.some, c.in-Some.ensures, b, c.in-Some-expression.ensures.reads) c.bounds-2.ensures.reads

pub bounds-returns-in-Some-clause-reads : goal.bounds-returns-in-Some-clause-reads
bounds-returns-in-Some-clause-reads t c = rw (bounds_shape c.args.levels (maybe_of c.args.to, high_of c.args.to) c.args.p.now.rest.now, c.in-Some.ensures) (higher _ _ _ _ (omega arith))

pub bounds-returns-in_default-expect_op-clause-reads : goal.bounds-returns-in_default-expect_op-clause-reads
bounds-returns-in_default-expect_op-clause-reads t c = rw (bounds_shape c.args.levels (maybe_of c.args.to, high_of c.args.to) c.args.p.now.rest.now, c.in_default.ensures.0, sym c.in_default.ensures.1) (part_fails c.expect_op.new.self.stop _ _ c.in_default-expect_op.ensures)

pub bounds-returns-in-Some-take_op-clause-reads : goal.bounds-returns-in-Some-take_op-clause-reads
bounds-returns-in-Some-take_op-clause-reads t c = rw (bounds_shape c.args.levels (maybe_of c.args.to, high_of c.args.to) c.args.p.now.rest.now, c.in_default.ensures.0, sym c.in_default.ensures.1, c.in-Some-expect_op.ensures, c.in-Some-take_op.ensures) (higher _ _ _ _ (omega arith))

pub bounds-returns-in_default-expression-clause-reads : goal.bounds-returns-in_default-expression-clause-reads
bounds-returns-in_default-expression-clause-reads t c = rw (bounds_shape c.args.levels (maybe_of c.args.to, high_of c.args.to) c.args.p.now.rest.now, c.in_default.ensures.0, sym c.in_default.ensures.1, c.in-Some-expect_op.ensures, c.in_default-take_op.ensures.0, sym c.in_default-take_op.ensures.1) (part_fails c.expression.new.p.stop _ _ c.in_default-expression.ensures.reads)

pub bounds-returns-in_default-expect_op-2-clause-reads : goal.bounds-returns-in_default-expect_op-2-clause-reads
bounds-returns-in_default-expect_op-2-clause-reads t c = rw (bounds_shape c.args.levels (maybe_of c.args.to, high_of c.args.to) c.args.p.now.rest.now, c.in_default.ensures.0, sym c.in_default.ensures.1, c.in-Some-expect_op.ensures, c.in_default-take_op.ensures.0, sym c.in_default-take_op.ensures.1, c.in-Some-expression.ensures.reads) (part_fails c.expect_op-2.new.self.stop _ _ c.in_default-expect_op-2.ensures)

pub bounds-returns-clause-reads : goal.bounds-returns-clause-reads
bounds-returns-clause-reads t c = rw (bounds_shape c.args.levels (maybe_of c.args.to, high_of c.args.to) c.args.p.now.rest.now, c.in_default.ensures.0, sym c.in_default.ensures.1, c.in-Some-expect_op.ensures, c.in_default-take_op.ensures.0, sym c.in_default-take_op.ensures.1, c.in-Some-expression.ensures.reads, c.in-Some-expect_op-2.ensures) refl

pub arguments-returns-in_default-clause-reads : goal.arguments-returns-in_default-clause-reads
arguments-returns-in_default-clause-reads t c = rw (arguments_shape c.args.levels c.args.p.now.rest.now c.requires.some) (part_fails c.expect_op.new.self.stop _ _ c.in_default.ensures)

pub arguments-returns-in-Some-take_op-clause-reads : goal.arguments-returns-in-Some-take_op-clause-reads
arguments-returns-in-Some-take_op-clause-reads t c = rw (arguments_shape c.args.levels c.args.p.now.rest.now c.requires.some, c.in-Some.ensures, c.in-Some-take_op.ensures, c.no_arguments-none.ensures.args, c.no_arguments-none.ensures.height) refl

pub arguments-returns-in_default-argument-clause-reads : goal.arguments-returns-in_default-argument-clause-reads
arguments-returns-in_default-argument-clause-reads t c = rw (arguments_shape c.args.levels c.args.p.now.rest.now c.requires.some, c.in-Some.ensures, c.in_default-take_op.ensures.0, sym c.in_default-take_op.ensures.1) (part_fails c.argument.new.p.stop _ _ (rw (c.no_arguments-none.ensures.args, c.no_arguments-none.ensures.height) at c.in_default-argument.ensures.reads))

pub arguments-returns-in_default-more_arguments-clause-reads : goal.arguments-returns-in_default-more_arguments-clause-reads
arguments-returns-in_default-more_arguments-clause-reads t c = rw (arguments_shape c.args.levels c.args.p.now.rest.now c.requires.some, c.in-Some.ensures, c.in_default-take_op.ensures.0, sym c.in_default-take_op.ensures.1, rw (c.no_arguments-none.ensures.args, c.no_arguments-none.ensures.height) at c.in-Some-argument.ensures.reads) (part_fails c.more_arguments.new.p.stop _ _ c.in_default-more_arguments.ensures.reads)

pub arguments-returns-in_default-expect_op-clause-reads : goal.arguments-returns-in_default-expect_op-clause-reads
arguments-returns-in_default-expect_op-clause-reads t c = rw (arguments_shape c.args.levels c.args.p.now.rest.now c.requires.some, c.in-Some.ensures, c.in_default-take_op.ensures.0, sym c.in_default-take_op.ensures.1, rw (c.no_arguments-none.ensures.args, c.no_arguments-none.ensures.height) at c.in-Some-argument.ensures.reads, c.in-Some-more_arguments.ensures.reads) (part_fails c.expect_op-2.new.self.stop _ _ c.in_default-expect_op.ensures)

pub arguments-returns-clause-reads : goal.arguments-returns-clause-reads
arguments-returns-clause-reads t c = rw (arguments_shape c.args.levels c.args.p.now.rest.now c.requires.some, c.in-Some.ensures, c.in_default-take_op.ensures.0, sym c.in_default-take_op.ensures.1, rw (c.no_arguments-none.ensures.args, c.no_arguments-none.ensures.height) at c.in-Some-argument.ensures.reads, c.in-Some-more_arguments.ensures.reads, c.in-Some-expect_op.ensures) refl

pub more_arguments-returns-then-not-begins_expression-clause-reads : goal.more_arguments-returns-then-not-begins_expression-clause-reads
more_arguments-returns-then-not-begins_expression-clause-reads t c = let b : starts_with kind expr_begins c.take_op.new.self.rest.now ≡ false = cc in args_end c.args.levels (args_of c.loop-comma.all, c.loop-comma.all.all.height) c.loop-comma.p.rest.now c.in-Some._comma.now c.take_op.new.self.rest.now (args_of c.end_arguments.result) c.end_arguments.result.all.height _ c.loop-comma.invariant.unended c.in-Some.ensures b c.end_arguments.ensures.args c.end_arguments.ensures.height c.loop-comma.invariant.reads

pub more_arguments-returns-in_default-argument-clause-reads : goal.more_arguments-returns-in_default-argument-clause-reads
more_arguments-returns-in_default-argument-clause-reads t c = let b : starts_with kind expr_begins c.take_op.new.self.rest.now ≡ true = cc in args_fails c.args.levels (args_of c.loop-comma.all, c.loop-comma.all.all.height) c.loop-comma.p.rest.now c.in-Some._comma.now c.take_op.new.self.rest.now c.argument.new.p.stop _ c.loop-comma.invariant.unended c.in-Some.ensures b c.in_default-argument.ensures.reads c.loop-comma.invariant.reads

pub more_arguments-loop-comma-smaller : goal.more_arguments-loop-comma-smaller
more_arguments-loop-comma-smaller t c = omega (arith, first_takes (k.comma ∷ []) c.loop-comma.p.rest.now c.in-Some._comma.now c.take_op.new.self.rest.now c.in-Some.ensures, arg_takes c.args.levels (args_of c.loop-comma.all, c.loop-comma.all.all.height) c.take_op.new.self.rest.now (args_of c.in-Some-argument.more, c.in-Some-argument.more.all.height) c.argument.new.p.rest.now c.in-Some-argument.ensures.reads)

pub more_arguments-loop-comma-preserved : goal.more_arguments-loop-comma-preserved
more_arguments-loop-comma-preserved t c = let b : starts_with kind expr_begins c.take_op.new.self.rest.now ≡ true = cc in record {
  reads = args_next c.args.levels (args_of c.loop-comma.all, c.loop-comma.all.all.height) c.loop-comma.p.rest.now c.in-Some._comma.now c.take_op.new.self.rest.now (args_of c.in-Some-argument.more, c.in-Some-argument.more.all.height) c.argument.new.p.rest.now _ c.loop-comma.invariant.unended c.in-Some.ensures b c.in-Some-argument.ensures.reads c.loop-comma.invariant.reads;
  unended = c.in-Some-argument.ensures.open;
  low = c.in-Some-argument.ensures.fits;
}

pub more_pairs-returns-then-not-begins_expression-clause-reads : goal.more_pairs-returns-then-not-begins_expression-clause-reads
more_pairs-returns-then-not-begins_expression-clause-reads t c = let b : starts_with kind expr_begins c.take_op.new.self.rest.now ≡ false = cc in pairs_end c.args.levels (pairs_of c.loop-comma.all, max c.loop-comma.all.names.height c.loop-comma.all.values.height) c.loop-comma.p.rest.now c.in-Some._comma.now c.take_op.new.self.rest.now (pairs_of c.end_pairs.result) (max c.end_pairs.result.names.height c.end_pairs.result.values.height) _ c.loop-comma.invariant.unended c.in-Some.ensures b c.end_pairs.ensures.pairs (omega (arith, c.end_pairs.ensures.names, c.end_pairs.ensures.values)) c.loop-comma.invariant.reads

pub more_pairs-returns-in_default-pair-clause-reads : goal.more_pairs-returns-in_default-pair-clause-reads
more_pairs-returns-in_default-pair-clause-reads t c = let b : starts_with kind expr_begins c.take_op.new.self.rest.now ≡ true = cc in pairs_fails c.args.levels (pairs_of c.loop-comma.all, max c.loop-comma.all.names.height c.loop-comma.all.values.height) c.loop-comma.p.rest.now c.in-Some._comma.now c.take_op.new.self.rest.now c.pair.new.p.stop _ c.loop-comma.invariant.unended c.in-Some.ensures b c.in_default-pair.ensures.reads c.loop-comma.invariant.reads

pub more_pairs-loop-comma-smaller : goal.more_pairs-loop-comma-smaller
more_pairs-loop-comma-smaller t c = omega (arith, first_takes (k.comma ∷ []) c.loop-comma.p.rest.now c.in-Some._comma.now c.take_op.new.self.rest.now c.in-Some.ensures, pair_takes c.args.levels (pairs_of c.loop-comma.all, max c.loop-comma.all.names.height c.loop-comma.all.values.height) c.take_op.new.self.rest.now (pairs_of c.in-Some-pair.more, max c.in-Some-pair.more.names.height c.in-Some-pair.more.values.height) c.pair.new.p.rest.now c.in-Some-pair.ensures.reads)

pub more_pairs-loop-comma-preserved : goal.more_pairs-loop-comma-preserved
more_pairs-loop-comma-preserved t c = let b : starts_with kind expr_begins c.take_op.new.self.rest.now ≡ true = cc in record {
  reads = pairs_next c.args.levels (pairs_of c.loop-comma.all, max c.loop-comma.all.names.height c.loop-comma.all.values.height) c.loop-comma.p.rest.now c.in-Some._comma.now c.take_op.new.self.rest.now (pairs_of c.in-Some-pair.more, max c.in-Some-pair.more.names.height c.in-Some-pair.more.values.height) c.pair.new.p.rest.now _ c.loop-comma.invariant.unended c.in-Some.ensures b c.in-Some-pair.ensures.reads c.loop-comma.invariant.reads;
  unended = (c.in-Some-pair.ensures.open ∙ c.loop-comma.invariant.unended);
  low = c.in-Some-pair.ensures.fits;
}

pub argument-returns-in_default-clause-reads : goal.argument-returns-in_default-clause-reads
argument-returns-in_default-clause-reads t c = rw (arg_shape c.args.levels (args_of c.args.before, c.args.before.all.height) c.args.p.now.rest.now) (part_fails c.expression.new.p.stop _ _ c.in_default.ensures.reads)

pub argument-returns-in-None-clause-reads : goal.argument-returns-in-None-clause-reads
argument-returns-in-None-clause-reads t c = rw (rw c.in-None.is at c.assigned.ensures) tt

pub argument-returns-in-Some-None-clause-reads : goal.argument-returns-in-Some-None-clause-reads
argument-returns-in-Some-None-clause-reads t c = args_reads c.add_argument.result c.assigned.new.p.rest.now c.made.result c.made.new.self _ _ _ c.made.ensures.makes c.add_argument.ensures.args c.add_argument.ensures.height (let n = rw c.in-Some-None.field-0-is at c.in-Some-None.ensures in rw (n.1) (arg_plain c.args.levels (args_of c.args.before, c.args.before.all.height) c.args.p.now.rest.now (tree c.in-Some.value.expr.value, c.in-Some.value.height) c.expression.new.p.rest.now c.in-Some.ensures.reads n.0))

pub argument-returns-in_default-expression-clause-reads : goal.argument-returns-in_default-expression-clause-reads
argument-returns-in_default-expression-clause-reads t c = arg_stops c.args.levels (args_of c.args.before, c.args.before.all.height) c.args.p.now.rest.now (tree c.in-Some.value.expr.value, c.in-Some.value.height) c.expression.new.p.rest.now c.in-Some-Some.name c.assigned.new.p.rest.now c.expression-in-Some-Some.new.p.stop c.in-Some.ensures.reads (rw c.in-Some-Some.field-0-is at c.in-Some-Some.ensures) c.in_default-expression.ensures.reads

pub argument-returns-in-Some-expression-clause-reads : goal.argument-returns-in-Some-expression-clause-reads
argument-returns-in-Some-expression-clause-reads t c = args_reads c.add_named.result c.expression-in-Some-Some.new.p.rest.now c.made-in-Some-Some.result c.made-in-Some-Some.new.self _ _ _ c.made-in-Some-Some.ensures.makes c.add_named.ensures.args c.add_named.ensures.height (arg_named c.args.levels (args_of c.args.before, c.args.before.all.height) c.args.p.now.rest.now (tree c.in-Some.value.expr.value, c.in-Some.value.height) c.expression.new.p.rest.now c.in-Some-Some.name c.assigned.new.p.rest.now (tree c.in-Some-expression.value.expr.value, c.in-Some-expression.value.height) c.expression-in-Some-Some.new.p.rest.now c.in-Some.ensures.reads c.in-Some.value.is_height (rw c.in-Some-Some.field-0-is at c.in-Some-Some.ensures) c.in-Some-expression.ensures.reads c.in-Some-expression.value.some)

pub atom-returns-in-Some-clause-reads : goal.atom-returns-in-Some-clause-reads
atom-returns-in-Some-clause-reads t c = rw (atom_shape c.args.levels c.args.p.now.rest.now c.requires.some, c.in-Some.ensures) c.name_leaf.ensures.reads

pub atom-returns-in-None-clause-reads : goal.atom-returns-in-None-clause-reads
atom-returns-in-None-clause-reads t c = rw (atom_shape c.args.levels c.args.p.now.rest.now c.requires.some, c.in-None.ensures.0, sym c.in-None.ensures.1) c.other_atom.ensures.reads

pub other_atom-returns-then-levels-eq0-clause-reads : goal.other_atom-returns-then-levels-eq0-clause-reads
other_atom-returns-then-levels-eq0-clause-reads t c = other_blocked c.args.levels c.args.p.now.rest.now c.no_other.new.p.stop (omega arith) c.no_other.ensures

pub group-returns-in_default-expressions-clause-reads : goal.group-returns-in_default-expressions-clause-reads
group-returns-in_default-expressions-clause-reads t c = rw (c.in_default.ensures.0, sym c.in_default.ensures.1) (part_fails c.expressions.new.p.stop _ _ c.in_default-expressions.ensures.reads)

pub group-returns-in_default-expect_op-clause-reads : goal.group-returns-in_default-expect_op-clause-reads
group-returns-in_default-expect_op-clause-reads t c = rw (c.in_default.ensures.0, sym c.in_default.ensures.1, c.in-Some-expressions.ensures.reads) (part_fails c.expect_op.new.self.stop _ _ c.in_default-expect_op.ensures)

pub group-returns-clause-reads : goal.group-returns-clause-reads
group-returns-clause-reads t c = node_reads c.paren_node.result c.expect_op.new.self.rest.now c.made-2.result c.made-2.new.self _ _ _ c.made-2.ensures.makes c.paren_node.ensures.tree c.paren_node.ensures.height (rw (c.in_default.ensures.0, sym c.in_default.ensures.1, c.in-Some-expressions.ensures.reads, c.in-Some-expect_op.ensures) refl)

pub pair-returns-in_default-clause-reads : goal.pair-returns-in_default-clause-reads
pair-returns-in_default-clause-reads t c = (part_fails c.expression.new.p.stop _ _ c.in_default.ensures.reads)

pub pair-returns-in_default-expect_op-clause-reads : goal.pair-returns-in_default-expect_op-clause-reads
pair-returns-in_default-expect_op-clause-reads t c = rw (c.in-Some.ensures.reads) (part_fails c.expect_op.new.self.stop _ _ c.in_default-expect_op.ensures)

pub pair-returns-in_default-expression-clause-reads : goal.pair-returns-in_default-expression-clause-reads
pair-returns-in_default-expression-clause-reads t c = rw (c.in-Some.ensures.reads, c.in-Some-expect_op.ensures) (part_fails c.expression-2.new.p.stop _ _ c.in_default-expression.ensures.reads)

pub pair-returns-clause-reads : goal.pair-returns-clause-reads
pair-returns-clause-reads t c = pairs_reads c.add_pair.result c.expression-2.new.p.rest.now c.made.result c.made.new.self _ _ _ _ c.made.ensures.makes c.add_pair.ensures.pairs c.add_pair.ensures.names c.add_pair.ensures.values (rw (c.in-Some.ensures.reads, c.in-Some-expect_op.ensures, c.in-Some-expression.ensures.reads) (higher _ _ _ _ (omega arith)))
