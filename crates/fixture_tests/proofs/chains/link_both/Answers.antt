use Rattle.std.proofs.Common.{ap, refl, sym, ◌+◌}
use Rattle.live_chains.proofs.Latest.{still_below}
use Rattle.fixture_tests.proofs.chains.link_both.Goals as goal

pub link_new-requires : goal.link_new-requires
link_new-requires g c = still_below _ _ _ _ refl (sym c.in_ok-one.ensures.0) c.requires.chains

pub link_plain-requires : goal.link_plain-requires
link_plain-requires g c = still_below _ _ _ _ refl (sym c.in_ok-other.ensures.0) c.requires.plain

pub returns-clause-chains : goal.returns-clause-chains
returns-clause-chains g c = still_below _ _ _ _ refl (ap (λ n. n + 1) c.in_ok-one.ensures.0) c.in_ok-link_new.ensures

pub returns-clause-plain : goal.returns-clause-plain
returns-clause-plain g c = still_below _ _ _ _ refl (ap (λ n. n + 1) c.in_ok-other.ensures.0) c.in_ok-link_plain.ensures
