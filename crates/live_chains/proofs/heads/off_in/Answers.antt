use Rattle.std.proofs.Common.{◌≡◌, ◌∙◌, ◌-◌, ◌++◌, suc, ap, sym, arith, append_assoc}
use Rattle.live_chains.specs.Chained.{chain_at, chains_below}
use Rattle.live_chains.specs.Walked.{off_orders}
use Rattle.live_chains.proofs.Scoped.{chain_is, off_append}
use Rattle.live_chains.proofs.heads.off_in.Goals as goal

pub push_off_in-requires : goal.push_off_in-requires
push_off_in-requires c = chain_is c.args.cells.now c.args.heads.now c.requires (c.loop-rank.rank - 1) (omega (arith, c.loop-rank.invariant.few, c.loop-rank-test.true))

pub loop-rank-preserved : goal.loop-rank-preserved
loop-rank-preserved c =
    let chains = chain_at c.args.cells.now c.args.heads.now in
    let below = off_orders c.args.chain.now (chains_below chains (c.loop-rank.rank - 1)) in
    let back : suc (c.loop-rank.rank - 1) ≡ c.loop-rank.rank = omega (arith, c.loop-rank-test.true) in
    record {
      few = omega (arith, c.loop-rank.invariant.few);
      same = ap (λ l. l ++ below) c.in_ok-push_off_in.ensures
          ∙ (append_assoc c.loop-rank.numbers.items (off_orders c.args.chain.now (chains (c.loop-rank.rank - 1))) below
          ∙ (ap (λ l. c.loop-rank.numbers.items ++ l) (sym (off_append c.args.chain.now (chains (c.loop-rank.rank - 1)) (chains_below chains (c.loop-rank.rank - 1))))
          ∙ (ap (λ n. c.loop-rank.numbers.items ++ off_orders c.args.chain.now (chains_below chains n)) back ∙ c.loop-rank.invariant.same)));
    }
