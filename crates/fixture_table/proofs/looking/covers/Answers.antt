use Rattle.std.proofs.Common.{◌∙◌, arith}
use Rattle.fixture_table.proofs.Chains.{covers_step}
use Rattle.fixture_table.proofs.looking.covers.Goals as goal

pub loop-at-preserved : goal.loop-at-preserved
loop-at-preserved c = record {
  within = let up = c.requires.tree.behind c.loop-at.at (omega arith) c.loop-at.invariant.within in omega (arith, c.loop-at.invariant.within);
  same = covers_step c.args.nodes.now c.requires.tree c.args.outer c.loop-at.at c.loop-at-test.true c.if-at-eq0.false c.loop-at.invariant.within ∙ c.loop-at.invariant.same;
}
