use Rattle.std.proofs.Common.{ℕ, [], ◌∷◌, refl, sym, arith}
use Rattle.py_tree.specs.Trees.{tree}
use Rattle.py_cursor.specs.token_kinds.Numbers as k
use Rattle.py_cursor.specs.py_expressions.Values.{Aim}
use Rattle.py_cursor.proofs.Loops.{blocked_as}
use Rattle.py_expression_parser.proofs.Lines.{room_goes}
use Rattle.py_expression_parser.proofs.Made.{part_fails, higher}
use Rattle.py_target_parser.proofs.Aims.{attribute_aim, low_goes, low_stays}
use Rattle.py_target_parser.proofs.reader.step.Goals as goal

pub returns-in_default-expect-clause-reads : goal.returns-in_default-expect-clause-reads
returns-in_default-expect-clause-reads c = rw (c.in-Some.ensures) (part_fails c.expect.new.self.stop _ _ c.in_default-expect.ensures)

pub returns-in_default-made-clause-reads : goal.returns-in_default-made-clause-reads
returns-in_default-made-clause-reads c = rw (c.in_default-made.ensures.makes) tt

pub returns-in_default-made-2-clause-reads : goal.returns-in_default-made-2-clause-reads
returns-in_default-made-2-clause-reads c = rw (c.in_default-made-2.ensures.makes) tt

pub returns-in-Some-clause-reads : goal.returns-in-Some-clause-reads
returns-in-Some-clause-reads c = let e = rw c.in-Some-made-2.ensures.makes.0 at c.attribute_node.ensures.tree in let h = rw c.in-Some-made-2.ensures.makes.0 at c.attribute_node.ensures.height in let n = rw c.in-Some-made.ensures.makes.0 at c.name_of.ensures in rw (c.in-Some-made-2.ensures.makes.1, c.in-Some-made.ensures.makes.1, c.in-Some.ensures, c.in-Some-expect.ensures, attribute_aim (tree c.in-Some-made-2.node.expr.value) _ _ _ e, n, h) refl

pub returns-in-Some-take_op-clause-reads : goal.returns-in-Some-take_op-clause-reads
returns-in-Some-take_op-clause-reads c = rw (c.in_default.ensures.0, sym c.in_default.ensures.1, c.in-Some-take_op.ensures, room_goes c.args.levels c.args.of.height c.args.of.some (omega arith)) c.index.ensures.reads

pub returns-then-of-levels-clause-reads : goal.returns-then-of-levels-clause-reads
returns-then-of-levels-clause-reads c = rw (c.in_default.ensures.0, sym c.in_default.ensures.1, c.in_default-take_op.ensures.0, sym c.in_default-take_op.ensures.1, low_stays c.args.levels c.args.of.height (omega arith) (omega arith)) (blocked_as (Aim × ℕ) (k.left_paren ∷ []) c.take_op-2.new.self.rest.now c.stop_blocked.new.self.stop c.stop_blocked.ensures.stops)

pub returns-in_default-arguments-clause-reads : goal.returns-in_default-arguments-clause-reads
returns-in_default-arguments-clause-reads c = rw (c.in_default.ensures.0, sym c.in_default.ensures.1, c.in_default-take_op.ensures.0, sym c.in_default-take_op.ensures.1, low_goes c.args.levels c.args.of.height (omega arith)) (part_fails c.arguments.new.p.stop _ _ c.in_default-arguments.ensures.reads)

pub returns-in_default-made-3-clause-reads : goal.returns-in_default-made-3-clause-reads
returns-in_default-made-3-clause-reads c = rw (c.in_default-made-3.ensures.makes) tt

pub returns-clause-reads : goal.returns-clause-reads
returns-clause-reads c = let e = rw c.in-Some-made-3.ensures.makes.0 at c.call_node.ensures.tree in let h = rw c.in-Some-made-3.ensures.makes.0 at c.call_node.ensures.height in rw (c.in-Some-made-3.ensures.makes.1, c.in_default.ensures.0, sym c.in_default.ensures.1, c.in_default-take_op.ensures.0, sym c.in_default-take_op.ensures.1, low_goes c.args.levels c.args.of.height (omega arith), c.in-Some-arguments.ensures.reads, e, h) (higher _ _ _ _ (omega arith))
