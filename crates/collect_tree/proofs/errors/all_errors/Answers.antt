use Rattle.std.proofs.Common.{rules, arith}
use Rattle.collect_tree.proofs.FileErrors.{errors_done, errors_more, errors_none}
use Rattle.collect_tree.proofs.errors.all_errors.Goals as goal

pub returns-then-is_empty : goal.returns-then-is_empty
returns-then-is_empty c = errors_none c.args.walk.now c.args.world.now c.args.files.now c.args.faults.now c.loop-at.at c.loop-at.left.len c.loop-at.left.items c.loop-at.all.items _ (omega (arith, c.loop-at.left.ok.0)) c.if-is_empty.ensures c.loop-at.invariant

pub loop-at-preserved : goal.loop-at-preserved
loop-at-preserved c =
    errors_more c.args.walk.now c.args.world.now c.args.files.now c.args.faults.now c.loop-at.at c.loop-at.left.len _ _ _ c.loop-at.left.items _ c.loop-at.all.items _ _ (omega arith) (omega arith) (search rules)
    (omega (arith, c.loop-at.left.ok.0)) c.if-is_empty.ensures c.remove-end.ensures.value c.remove-end.ensures.items c.loop-at.invariant c.in_ok-push_errors.ensures

pub returns : goal.returns
returns c = errors_done c.args.walk.now c.args.world.now c.args.files.now c.args.faults.now c.loop-at.at c.loop-at.left.items c.loop-at.all.items _ (omega arith) c.loop-at.invariant
