use Rattle.std.proofs.Common.{◌≡◌, ℕ, max, true, false, [], ◌∷◌, refl, sym, arith}
use Rattle.py_tree.specs.Trees.{tree}
use Rattle.grammar_code.specs.Walk.{starts_with}
use Rattle.py_cursor.specs.token_kinds.Kinds.{kind}
use Rattle.py_cursor.specs.token_kinds.Numbers as k
use Rattle.py_cursor.specs.py_expressions.Values.{Aim}
use Rattle.py_cursor.proofs.Loops.{blocked_as}
use Rattle.py_expression_parser.proofs.Made.{part_fails, higher}
use Rattle.py_target_parser.proofs.Aims.{subscript_aim, low_goes, low_stays}
use Rattle.py_target_parser.proofs.reader.index.Goals as goal

pub returns-then-of-levels-clause-reads : goal.returns-then-of-levels-clause-reads
returns-then-of-levels-clause-reads c = let b : starts_with kind (k.colon ∷ []) c.args.p.now.rest.now ≡ true = cc in rw (c.stop_deep.ensures.stops) (rw (b, low_stays c.args.levels c.args.of.height (omega arith) (omega arith)) refl)

pub returns-in_default-clause-reads : goal.returns-in_default-clause-reads
returns-in_default-clause-reads c = let b : starts_with kind (k.colon ∷ []) c.args.p.now.rest.now ≡ true = cc in rw (b, low_goes c.args.levels c.args.of.height (omega arith)) (part_fails c.slice.new.p.stop _ _ c.in_default.ensures.reads)

pub returns-in_default-made-clause-reads : goal.returns-in_default-made-clause-reads
returns-in_default-made-clause-reads c = rw (c.in_default-made.ensures.makes) tt

pub returns-then-at_op-clause-reads : goal.returns-then-at_op-clause-reads
returns-then-at_op-clause-reads c = let b : starts_with kind (k.colon ∷ []) c.args.p.now.rest.now ≡ true = cc in let e = rw c.in-Some-made.ensures.makes.0 at c.slice_node.ensures.tree in let h = rw c.in-Some-made.ensures.makes.0 at c.slice_node.ensures.height in rw (c.in-Some-made.ensures.makes.1, b, low_goes c.args.levels c.args.of.height (omega arith), c.in-Some.ensures.reads, e, h) (higher _ _ _ _ (omega arith))

pub returns-in_default-expression-clause-reads : goal.returns-in_default-expression-clause-reads
returns-in_default-expression-clause-reads c = let b : starts_with kind (k.colon ∷ []) c.args.p.now.rest.now ≡ false = cc in rw (b) (part_fails c.expression.new.p.stop _ _ c.in_default-expression.ensures.reads)

pub returns-in_default-made-2-clause-reads : goal.returns-in_default-made-2-clause-reads
returns-in_default-made-2-clause-reads c = rw (c.in_default-made-2.ensures.makes) tt

pub returns-in-Some-take_op-clause-reads : goal.returns-in-Some-take_op-clause-reads
returns-in-Some-take_op-clause-reads c = let b : starts_with kind (k.colon ∷ []) c.args.p.now.rest.now ≡ false = cc in let e = rw c.in-Some-made-2.ensures.makes.0 at c.subscript_node.ensures.tree in let h = rw c.in-Some-made-2.ensures.makes.0 at c.subscript_node.ensures.height in rw (c.in-Some-made-2.ensures.makes.1, b, c.in-Some-expression.ensures.reads, c.in-Some-take_op.ensures, subscript_aim (tree c.in-Some-made-2.node.expr.value) _ _ _ e, h) refl

pub returns-then-max-levels-clause-reads : goal.returns-then-max-levels-clause-reads
returns-then-max-levels-clause-reads c = let b : starts_with kind (k.colon ∷ []) c.args.p.now.rest.now ≡ false = cc in rw (b, c.in-Some-expression.ensures.reads, c.in_default-take_op.ensures.0, sym c.in_default-take_op.ensures.1, low_stays c.args.levels (max c.args.of.height c.in-Some-expression.index.height) (omega arith) (omega (arith, c.max.ensures))) (blocked_as (Aim × ℕ) (k.colon ∷ []) c.take_op.new.self.rest.now c.stop_blocked.new.self.stop c.stop_blocked.ensures.stops)

pub returns-in_default-slice-clause-reads : goal.returns-in_default-slice-clause-reads
returns-in_default-slice-clause-reads c = let b : starts_with kind (k.colon ∷ []) c.args.p.now.rest.now ≡ false = cc in rw (b, c.in-Some-expression.ensures.reads, c.in_default-take_op.ensures.0, sym c.in_default-take_op.ensures.1, low_goes c.args.levels (max c.args.of.height c.in-Some-expression.index.height) (omega (arith, c.max.ensures))) (part_fails c.slice-2.new.p.stop _ _ c.in_default-slice.ensures.reads)

pub returns-in_default-made-3-clause-reads : goal.returns-in_default-made-3-clause-reads
returns-in_default-made-3-clause-reads c = rw (c.in_default-made-3.ensures.makes) tt

pub returns-clause-reads : goal.returns-clause-reads
returns-clause-reads c = let b : starts_with kind (k.colon ∷ []) c.args.p.now.rest.now ≡ false = cc in let e = rw c.in-Some-made-3.ensures.makes.0 at c.slice_node-2.ensures.tree in let h = rw c.in-Some-made-3.ensures.makes.0 at c.slice_node-2.ensures.height in rw (c.in-Some-made-3.ensures.makes.1, b, c.in-Some-expression.ensures.reads, c.in_default-take_op.ensures.0, sym c.in_default-take_op.ensures.1, low_goes c.args.levels (max c.args.of.height c.in-Some-expression.index.height) (omega (arith, c.max.ensures)), c.in-Some-slice.ensures.reads, e, h) (higher _ _ _ _ (omega arith))
