use Rattle.std.proofs.Common.{◌≡◌, ◌∙◌, ◌-◌, ◌++◌, suc, sym, ap, arith, append_assoc}
use Rattle.session_types.specs.Live.{below_rank, instance_numbers, of_scope, scope_numbers}
use Rattle.session_types.proofs.Order.{numbers_in-append}
use Rattle.live_chains.specs.Down.{dying}
use Rattle.live_chains.proofs.plain.down_in.Goals as goal

pub loop-rank-preserved : goal.loop-rank-preserved
loop-rank-preserved c =
    let set = dying c.args.which.now c.args.live.now in
    let r = c.loop-rank.rank - 1 in
    let back : suc r ≡ c.loop-rank.rank = omega (arith, c.loop-rank-test.true) in
    record {
      few = omega (arith, c.loop-rank.invariant.few);
      same = ap (λ l. l ++ instance_numbers (below_rank r set)) c.in_ok-push_scope.ensures
          ∙ (append_assoc c.loop-rank.out.items (scope_numbers r set) (instance_numbers (below_rank r set))
          ∙ (ap (λ l. c.loop-rank.out.items ++ l) (sym (numbers_in-append (of_scope r set) (below_rank r set)))
          ∙ (ap (λ n. c.loop-rank.out.items ++ instance_numbers (below_rank n set)) back ∙ c.loop-rank.invariant.same)));
    }
