use Rattle.std.proofs.Common.{ap, sym, ◌∙◌}
use Rattle.py_literals.specs.Literals.{item_at}
use Rattle.py_literals.proofs.Bodies.{misses_at, item_at_place, ends_at}
use Rattle.py_literals.proofs.literal.body_text.Goals as goal

pub returns-in-Err-clause-value : goal.returns-in-Err-clause-value
returns-in-Err-clause-value c =
    sym c.loop-at.invariant
    ∙ misses_at c.args.is_raw c.loop-at.at c.in-Err.kind c.args.body.now c.loop-at.text c.loop-at-test.true (c.in-Err.ensures.value ∙ ap (item_at c.args.is_raw) c.behind.ensures)

pub loop-at-preserved : goal.loop-at-preserved
loop-at-preserved c =
    item_at_place c.args.is_raw c.loop-at.at c.in-Ok.item c.args.body.now c.loop-at.text c.push_char.new.text c.loop-at-test.true (c.in-Ok.ensures.value ∙ ap (item_at c.args.is_raw) c.behind.ensures) c.in-Ok.ensures.size.0 c.in_ok-push_char.ensures
    ∙ c.loop-at.invariant

pub returns-clause-value : goal.returns-clause-value
returns-clause-value c =
    sym c.loop-at.invariant
    ∙ ends_at c.args.is_raw c.loop-at.at c.args.body.now c.loop-at.text c.loop-at-test.false
