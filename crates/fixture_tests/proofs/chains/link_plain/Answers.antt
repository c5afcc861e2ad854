use Rattle.std.proofs.Common.{ap, refl}
use Rattle.live_chains.proofs.Latest.{still_below, one_below}
use Rattle.fixture_tests.proofs.chains.link_plain.Goals as goal

pub link-number-requires-clause-latest : goal.link-number-requires-clause-latest
link-number-requires-clause-latest c = still_below _ _ _ _ (ap (λ v. v.live) c.in_ok-reserve.ensures.ok) refl c.requires

pub returns : goal.returns
returns c = one_below _ _ c.args.instance (ap (λ v. v.live) c.link-number.ensures.linked) (still_below _ _ _ _ (ap (λ v. v.live) c.in_ok-reserve.ensures.ok) refl c.requires)
