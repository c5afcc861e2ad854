use Rattle.std.proofs.Common.{arith}
use Rattle.conftest_hooks.proofs.Placed.{place_within}
use Rattle.conftest_hooks.proofs.registering.put_in_order.Goals as goal

pub insert-requires : goal.insert-requires
insert-requires c = (let l = place_within c.args.which c.args.others.now in omega (arith, l, c.place_among-place.ensures.place, c.in_ok-all.ensures.len))
