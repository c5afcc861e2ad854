use Rattle.std.proofs.Common.{◌≡◌, ◌∙◌, ◌-◌, suc, ap, sym, arith}
use Rattle.std.specs.Option.{option_map}
use Rattle.live_chains.specs.Chained.{chain_at, chains_below, id_of}
use Rattle.live_chains.specs.Walked.{first_at}
use Rattle.live_chains.proofs.Scoped.{chain_is, found_in, past_in}
use Rattle.live_chains.proofs.heads.find_in.Goals as goal

pub first_at-found-requires : goal.first_at-found-requires
first_at-found-requires c = chain_is c.args.cells.now c.args.heads.now c.requires (c.loop-rank.rank - 1) (omega (arith, c.loop-rank.invariant.few, c.loop-rank-test.true))

pub returns-then-is_some : goal.returns-then-is_some
returns-then-is_some c =
    let chains = chain_at c.args.cells.now c.args.heads.now in
    let back : suc (c.loop-rank.rank - 1) ≡ c.loop-rank.rank = omega (arith, c.loop-rank-test.true) in
    found_in c.args.def c.args.node chains (c.loop-rank.rank - 1) c.first_at-found.result c.first_at-found.ensures (sym c.is_some.ensures ∙ c.if-is_some.true)
    ∙ ap (option_map id_of) (ap (λ n. first_at c.args.def c.args.node (chains_below chains n)) back ∙ c.loop-rank.invariant.same)

pub loop-rank-preserved : goal.loop-rank-preserved
loop-rank-preserved c =
    let chains = chain_at c.args.cells.now c.args.heads.now in
    let back : suc (c.loop-rank.rank - 1) ≡ c.loop-rank.rank = omega (arith, c.loop-rank-test.true) in
    record {
      few = omega (arith, c.loop-rank.invariant.few);
      same = sym (past_in c.args.def c.args.node chains (c.loop-rank.rank - 1) c.first_at-found.result c.first_at-found.ensures (sym c.is_some.ensures ∙ c.if-is_some.false))
          ∙ (ap (λ n. first_at c.args.def c.args.node (chains_below chains n)) back ∙ c.loop-rank.invariant.same);
    }
