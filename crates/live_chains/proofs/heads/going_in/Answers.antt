use Rattle.std.proofs.Common.{◌≡◌, ◌∙◌, ◌-◌, ◌++◌, suc, ap, arith, append_assoc, reverse}
use Rattle.live_chains.specs.Chained.{chain_at}
use Rattle.live_chains.specs.Walked.{resting_ids, going_below}
use Rattle.live_chains.proofs.Scoped.{chain_is}
use Rattle.live_chains.proofs.heads.going_in.Goals as goal

pub push_going-requires : goal.push_going-requires
push_going-requires c = chain_is c.args.cells.now c.args.heads.now c.requires (c.loop-rank.rank - 1) (omega (arith, c.loop-rank.invariant.few, c.loop-rank-test.true))

pub loop-rank-preserved : goal.loop-rank-preserved
loop-rank-preserved c =
    let chains = chain_at c.args.cells.now c.args.heads.now in
    let below = going_below c.args.roots.now chains (c.loop-rank.rank - 1) in
    let back : suc (c.loop-rank.rank - 1) ≡ c.loop-rank.rank = omega (arith, c.loop-rank-test.true) in
    record {
      few = omega (arith, c.loop-rank.invariant.few);
      same = ap (λ l. l ++ below) c.in_ok-push_going.ensures
          ∙ (append_assoc c.loop-rank.ids.items (reverse (resting_ids c.args.roots.now (chains (c.loop-rank.rank - 1)))) below
          ∙ (ap (λ n. c.loop-rank.ids.items ++ going_below c.args.roots.now chains n) back ∙ c.loop-rank.invariant.same));
    }
