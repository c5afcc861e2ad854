use Rattle.std.proofs.Common.{◌≡◌, ◌≤◌, length}
use Rattle.py_tree.specs.Trees.{tree}
use Rattle.py_cursor.specs.py_expressions.Sorts.{single}
use Rattle.py_expression_parser.specs.Reads.{reads as reads_line}
use Rattle.py_target_parser.specs.Aims.{aim_of, aim_tall, IsPlace, aims}
use Rattle.py_target_parser.proofs.reader.single.Given as goal

abbrev pub invariant-loop-p : goal.invariant-loop-p
invariant-loop-p l = record {
  reads : aims l.levels (aim_of l.aim.is_target (tree l.aim.node.expr.value), aim_tall l.aim.is_target l.aim.node.height) l.p.rest.now ≡ reads_line l.levels single l.fn.p.rest.now;
  place : IsPlace l.aim.is_target (tree l.aim.node.expr.value);
  fits : aim_tall l.aim.is_target l.aim.node.height ≤ l.levels;
}

abbrev pub decreases-loop-p : goal.decreases-loop-p
decreases-loop-p l = length l.p.rest.now
