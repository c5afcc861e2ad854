use Rattle.std.proofs.Common.{sym, ◌∙◌}
use Rattle.py_context.proofs.StatementPlaces.{single_begun, single_found, single_on, single_none}
use Rattle.py_context.proofs.statements.in_singles.Goals as goal

pub loop-single-init : goal.loop-single-init
loop-single-init c = single_begun c.args.all.now

pub returns-in-Some : goal.returns-in-Some
returns-in-Some c = single_found c.args.all.now c.loop-single.single-index c.single-item.result c.in-Some.at _ c.loop-single-test.true c.single-item.is (sym c.in-Some.is ∙ c.in_ok-at.ensures) c.loop-single.invariant

pub loop-single-preserved : goal.loop-single-preserved
loop-single-preserved c = single_on c.args.all.now c.loop-single.single-index c.single-item.result _ c.loop-single-test.true c.single-item.is (sym c.in_default.is ∙ c.in_ok-at.ensures) c.loop-single.invariant

pub returns : goal.returns
returns c = single_none c.args.all.now c.loop-single.single-index _ c.loop-single-test.false c.loop-single.invariant
