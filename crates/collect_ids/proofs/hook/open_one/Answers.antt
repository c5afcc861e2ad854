use Rattle.std.proofs.Common.{ap, ◌∙◌, Some}
use Rattle.runtest_rules.specs.fixture_calls.Hooks.{hook_begun}
use Rattle.test_suite.specs.declared.hook.Hook.{Hook}
use Rattle.collect_ids.proofs.Called.{end_opened}
use Rattle.collect_ids.proofs.hook.open_one.Goals as goal

pub returns-in-Ok : goal.returns-in-Ok
returns-in-Ok c =
    end_opened c.args.limit c.args.table.now c.args.which.now _ _ c.args.world.now _ _ _
    (c.in-Ok.ensures ∙ ap (λ (h : Hook). hook_begun c.args.limit h (Some c.args.value) (Some c.args.name) c.args.world.now) c.hook_or-hook.ensures) c.opened.ensures
