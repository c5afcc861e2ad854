use Rattle.param_rows.specs.Grouping.{are_neighbours}
use Rattle.param_rows.proofs.Groups.{run_all}
use Rattle.param_rows.proofs.grouping.run_len.Goals as goal

pub returns-clause-value : goal.returns-clause-value
returns-clause-value c = run_all (are_neighbours c.args.scope c.args.items.now) c.args.order.now c.loop-at.at c.loop-at-test.false c.loop-at.auto.at c.loop-at.auto.at-end c.loop-at.invariant
