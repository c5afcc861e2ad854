use Rattle.std.proofs.Common.{ap}
use Rattle.live_chains.proofs.Listed.{got}
use Rattle.live_chains.proofs.plain.PlainChains.get.Goals as goal

pub returns : goal.returns
returns c = got c.args.number c.place_of-place.result c.args.self.now.live c.self.inside.live.items _ c.index.result.now (ap (λ v. v.live) c.self.view_is) c.deref.ensures.value c.self.invariant.0 c.place_of-place.ensures.within c.place_of-place.ensures.at c.index.ensures
