use Rattle.mark_expr.proofs.Meaning.{part_over, part_end}
use Rattle.mark_expr.proofs.matching.contains.Goals as goal

pub loop-start-preserved : goal.loop-start-preserved
loop-start-preserved c = part_over c.args.part.now c.args.whole.now c.loop-start.start c.begins_with.result _ c.loop-start-test.true c.begins_with.ensures c.if-begins_with.false c.loop-start.invariant

pub returns : goal.returns
returns c = part_end c.args.part.now c.args.whole.now c.loop-start.start c.is_empty.result _ c.loop-start-test.false c.is_empty.ensures c.loop-start.invariant
