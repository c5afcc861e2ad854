use Rattle.std.proofs.Common.{sym, ◌∙◌}
use Rattle.py_context.proofs.StatementPlaces.{target_begun, target_found, target_on, target_none}
use Rattle.py_context.proofs.statements.in_targets.Goals as goal

pub loop-target-init : goal.loop-target-init
loop-target-init c = target_begun c.args.all.now

pub returns-in-Some : goal.returns-in-Some
returns-in-Some c = target_found c.args.all.now c.loop-target.target-index c.target-item.result c.in-Some.at _ c.loop-target-test.true c.target-item.is (sym c.in-Some.is ∙ c.in_ok-at.ensures) c.loop-target.invariant

pub loop-target-preserved : goal.loop-target-preserved
loop-target-preserved c = target_on c.args.all.now c.loop-target.target-index c.target-item.result _ c.loop-target-test.true c.target-item.is (sym c.in_default.is ∙ c.in_ok-at.ensures) c.loop-target.invariant

pub returns : goal.returns
returns c = target_none c.args.all.now c.loop-target.target-index _ c.loop-target-test.false c.loop-target.invariant
