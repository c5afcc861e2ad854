use Rattle.std.proofs.Common.{ap}
use Rattle.fixture_instances.proofs.Spent.{spent_now}
use Rattle.setup_stack.proofs.stack.SetupStack.abandon_all.Goals as goal

pub returns-clause-spent : goal.returns-clause-spent
returns-clause-spent g c = spent_now c.args.self.now.live.live c.give_up_all.new.live.live (ap (λ v. v.live) c.give_up_all.ensures.live)
