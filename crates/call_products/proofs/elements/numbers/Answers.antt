use Rattle.call_products.specs.Elements.{range_values}
use Rattle.call_products.proofs.Gathering.{numbers_turn, numbers_stop}
use Rattle.call_products.proofs.elements.numbers.Goals as goal

pub returns-in-None : goal.returns-in-None
returns-in-None c =
    numbers_stop c.args.range.now c.loop-at.values.items (range_values c.args.range.now) c.args.range.now.length c.loop-at.at
    c.loop-at-test.true c.in-None.ensures c.loop-at.invariant

pub loop-at-preserved : goal.loop-at-preserved
loop-at-preserved c =
    rw c.in_ok-push-in-Some.ensures.items
    (numbers_turn c.args.range.now c.loop-at.values.items (range_values c.args.range.now) c.args.range.now.length c.loop-at.at c.in-Some.v
    c.loop-at-test.true c.in-Some.ensures c.loop-at.invariant)
