use Rattle.std.proofs.Common.{◌≡◌, ◌+◌, arith}
use Rattle.call_products.specs.Products.{refs_from}
use Rattle.call_products.proofs.Gathering.{refs_turn}
use Rattle.call_products.proofs.product.refs.Goals as goal

pub loop-i-preserved : goal.loop-i-preserved
loop-i-preserved c =
    let at : c.in-Some.at ≡ c.args.from + c.loop-i.i = omega arith in
    rw (c.in_ok-push.ensures.items, at)
    (refs_turn c.loop-i.values.items (refs_from c.args.from c.args.count) c.args.from c.args.count c.loop-i.i c.loop-i-test.true c.loop-i.invariant)
