use Rattle.std.proofs.Common.{arith}
use Rattle.edge_io.proofs.ToldLemmas.{Appends-same, AppendsPrefix-take, Appends-more}
use Rattle.edge_io.proofs.sink.put_all.Goals as goal

pub returns-in_err-at-clause-prefix : goal.returns-in_err-at-clause-prefix
returns-in_err-at-clause-prefix g c =
    AppendsPrefix-take _ _ _ c.loop-at.at (Appends-same _ _ _ _ c.loop-at.invariant.told c.in_err-at.ensures.err)

pub loop-at-preserved : goal.loop-at-preserved
loop-at-preserved g c =
    record {
      within = omega (arith, c.in_ok-at.ensures.most);
      told = Appends-more _ _ _ _ _ _ _ c.loop-at.invariant.told c.split_at.ensures.back c.in_ok-at.ensures.ok;
      later = omega (arith, c.in_ok-at.ensures.cause.later);
    }
