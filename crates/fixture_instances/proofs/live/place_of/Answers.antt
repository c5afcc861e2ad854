use Rattle.std.proofs.Common.{◌<◌, ◌+◌, ◌-◌, ◌/◌, ap, sym, subst, ◌∙◌, ◌≡◌, arith, length, get_or}
use Rattle.fixture_instances.specs.Joined.{kept_order, kept_place}
use Rattle.fixture_instances.proofs.Pairing.{kept_here, place_at, place_high, place_low, place_within}
use Rattle.fixture_instances.proofs.live.place_of.Goals as goal

pub halves-init : goal.halves-init
halves-init g c = record { low = omega arith; high = place_within c.args.order c.args.kept.now c.requires.some; within = omega arith }

pub halves-preserved-then-kept-middle : goal.halves-preserved-then-kept-middle
halves-preserved-then-kept-middle g c =
    let v = c.halves.invariant in
    let t = c.halves-test.true in
    let i = c.halves.low + (c.halves.high - c.halves.low) / 2 in
    let w : i < length c.args.kept.now = omega (arith, t, v.within) in
    record {
      low = place_low c.args.order c.args.kept.now i c.index-kept-middle.result c.requires.some c.requires.rising w (omega (arith, c.if-kept-middle.true, ap kept_order c.index-kept-middle.is));
      high = v.high;
      within = v.within;
    }

pub halves-preserved : goal.halves-preserved
halves-preserved g c =
    let v = c.halves.invariant in
    let t = c.halves-test.true in
    let i = c.halves.low + (c.halves.high - c.halves.low) / 2 in
    let w : i < length c.args.kept.now = omega (arith, t, v.within) in
    record {
      low = v.low;
      high = place_high c.args.order c.args.kept.now i c.index-kept-middle.result c.requires.some c.requires.rising w (omega (arith, c.if-kept-middle.false, ap kept_order c.index-kept-middle.is));
      within = omega (arith, w);
    }

pub returns-clause-at : goal.returns-clause-at
returns-clause-at g c = λ d.
    let v = c.halves.invariant in
    let e : kept_place c.args.order c.args.kept.now ≡ c.halves.low = omega (arith, v.low, v.high, c.halves-test.false) in
    ap (λ i. (get_or c.args.kept.now i d).order) (sym e) ∙ place_at c.args.order c.args.kept.now d c.requires.some

pub returns-clause-found : goal.returns-clause-found
returns-clause-found g c = λ d.
    let v = c.halves.invariant in
    let l : c.halves.low < length c.args.kept.now = omega (arith, v.low, v.high, v.within) in
    kept_here c.args.kept.now c.halves.low c.args.order d c.requires.some l (returns-clause-at g c d) c.requires.rising
