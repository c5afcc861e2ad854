use Rattle.fixture_instances.specs.Items.{item_for_session}
use Rattle.fixture_instances.specs.Views.{live_instances}
use Rattle.setup_stack.proofs.Demands.{given_noted}
use Rattle.setup_stack.proofs.Stands.{none_stand}
use Rattle.setup_stack.proofs.stack.SetupStack.demand.Goals as goal

pub returns-clause-demanded : goal.returns-clause-demanded
returns-clause-demanded g c =
    given_noted (g.W.Executor.rules c.args.setting.now) c.in_ok-answer.answer c.in-Given.grant c.demand.new.world c.demand.new.stack c.push.new.self _ c.in_ok-answer.ensures.answer c.in-Given.is c.in_ok-push-in-Given.ensures.ok

pub demand-requires-clause-stand : goal.demand-requires-clause-stand
demand-requires-clause-stand g c = none_stand (g.W.Executor.rules c.args.setting.now) (item_for_session c.args.table.now c.args.item.now) (live_instances (g.W.Executor.rules c.args.setting.now) c.args.self.now.live.live) c.new-marks.result.items c.new-marks.ensures.items
