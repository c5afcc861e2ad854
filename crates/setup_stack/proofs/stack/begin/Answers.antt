use Rattle.std.proofs.Common.{◌∙◌}
use Rattle.fixture_instances.specs.Items.{item_for_session}
use Rattle.setup_stack.proofs.Begins.{begun_is}
use Rattle.setup_stack.proofs.stack.begin.Goals as goal

pub returns-clause-made : goal.returns-clause-made
returns-clause-made g c =
    begun_is (g.W.Executor.rules c.args.setting.now) (item_for_session c.args.table.now c.args.item.now) c.args.def c.args.given.now c.args.own c.args.world.now c.ask.new.self c.begin.new.self c.make.new.world c.in_ok-request.request c.in_ok-end.end c.deref.result.now c.in_ok-made.made.held
    (c.deref.ensures.value ∙ c.in_ok-values.ensures) c.in_ok-request.ensures.request c.in_ok-request.ensures.world c.in_ok-end.ensures.how c.in_ok-end.ensures.world c.in_ok-made.ensures.made
