use Rattle.std.proofs.Common.{◌∙◌, ◌++◌, ap, sym, arith, append_assoc}
use Rattle.fixture_table.proofs.Chains.{chain_step}
use Rattle.fixture_instances.proofs.items.chain_of.Goals as goal

pub loop-at-preserved : goal.loop-at-preserved
loop-at-preserved c =
    let up = c.requires.tree.behind c.loop-at.at (omega arith) c.loop-at.invariant.within in
    let e = ap (λ n. n.parent) c.node.ensures in
    record {
      within = omega (arith, c.loop-at.invariant.within, e, up);
      same = rw (c.in_ok-push.ensures.items, append_assoc, e) (ap (λ r. c.loop-at.chain.items ++ r) (sym (chain_step c.args.table.now.nodes c.requires.tree c.loop-at.at c.loop-at-test.true c.loop-at.invariant.within)) ∙ c.loop-at.invariant.same);
    }
