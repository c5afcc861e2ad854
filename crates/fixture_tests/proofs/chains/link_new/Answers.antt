use Rattle.std.proofs.Common.{ap, refl}
use Rattle.live_chains.proofs.Latest.{still_below, still_more, one_below}
use Rattle.fixture_tests.proofs.chains.link_new.Goals as goal

pub link-id-requires-clause-latest : goal.link-id-requires-clause-latest
link-id-requires-clause-latest g c = still_below _ _ _ _ (ap (λ v. v.live) c.in_ok-reserve.ensures.same) refl c.requires

pub returns-in-None : goal.returns-in-None
returns-in-None g c = one_below _ _ c.args.instance (ap (λ v. v.live) c.link-id.ensures.linked) (still_below _ _ _ _ (ap (λ v. v.live) c.in_ok-reserve.ensures.same) refl c.requires)

pub returns-in-Some : goal.returns-in-Some
returns-in-Some g c = still_more _ _ _ (ap (λ v. v.live) c.in_ok-reserve.ensures.same) c.requires
