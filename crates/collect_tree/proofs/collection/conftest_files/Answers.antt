use Rattle.std.proofs.Common.{arith}
use Rattle.collect_tree.proofs.ConftestFiles.{files_end, files_on}
use Rattle.collect_tree.proofs.collection.conftest_files.Goals as goal

pub returns-in_default : goal.returns-in_default
returns-in_default c = files_end c.args.places.now c.args.modules.now c.loop-at.at _ _ c.loop-at.invariant c.in_default.ensures.lookup.3

pub loop-at-preserved : goal.loop-at-preserved
loop-at-preserved c =
    files_on c.args.places.now c.args.modules.now c.loop-at.at _ c.in-Some.v.now _ _ _ (omega arith) c.in-Some.ensures.lookup.3.0 c.in-Some.ensures.lookup.1 c.loop-at.invariant c.in_ok-push.ensures.items
