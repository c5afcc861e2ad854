use Rattle.std.proofs.Common.{subst, sym}
use Rattle.test_session.proofs.Looks.{runnable_knows}
use Rattle.test_session.specs.Stacks.{KnowsTable}
use Rattle.test_session.proofs.collecting.shown.Goals as goal

pub returns-in-Ok-clause-known : goal.returns-in-Ok-clause-known
returns-in-Ok-clause-known c = subst KnowsTable (sym c.in-Ok.ensures.made) (runnable_knows c.args.limit c.args.found.found _ _ _ c.requires.within.suite)
