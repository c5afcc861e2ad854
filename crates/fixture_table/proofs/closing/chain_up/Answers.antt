use Rattle.std.proofs.Common.{◌≡◌, ℕ, ◌<◌, ◌∙◌, ap, sym, subst, arith, inl, inr, List, [], ◌∷◌, ◌++◌, length, get_or, append_assoc}
use Rattle.fixture_table.proofs.Chains.{chain_step}
use Rattle.fixture_table.proofs.Grows.{all_push}
use Rattle.fixture_table.proofs.closing.chain_up.Goals as goal

pub loop-at-preserved : goal.loop-at-preserved
loop-at-preserved c = record {
  within = let up = c.requires.tree.behind c.loop-at.at (omega arith) c.loop-at.invariant.within in omega (arith, c.loop-at.invariant.within);
  same = rw (c.in_ok-push.ensures.items, append_assoc) (ap (λ r. c.loop-at.chain.items ++ r) (sym (chain_step c.args.nodes.now c.requires.tree c.loop-at.at c.loop-at-test.true c.loop-at.invariant.within)) ∙ c.loop-at.invariant.same);
  below = rw c.in_ok-push.ensures.items (all_push (length c.args.nodes.now) c.loop-at.chain.items c.loop-at.at c.loop-at.invariant.below c.loop-at.invariant.within);
}
