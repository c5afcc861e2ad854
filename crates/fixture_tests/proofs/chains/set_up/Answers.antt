use Rattle.std.proofs.Common.{ap}
use Rattle.live_chains.proofs.Latest.{none_below}
use Rattle.fixture_tests.proofs.chains.set_up.Goals as goal

pub loop-order-init : goal.loop-order-init
loop-order-init g c = record {
  chains = none_below _ _ (ap (λ v. v.live) c.in_ok-chains.ensures);
  plain = none_below _ _ (ap (λ v. v.live) c.new-plain.ensures);
}
