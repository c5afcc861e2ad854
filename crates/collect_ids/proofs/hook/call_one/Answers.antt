use Rattle.std.proofs.Common.{ap, ◌∙◌, Some}
use Rattle.runtest_rules.specs.fixture_calls.Hooks.{hook_called}
use Rattle.test_suite.specs.declared.hook.Hook.{Hook}
use Rattle.collect_ids.proofs.Called.{call_ran}
use Rattle.collect_ids.proofs.hook.call_one.Goals as goal

pub returns-in-Ok : goal.returns-in-Ok
returns-in-Ok c =
    call_ran _ _ c.args.world.now _ _ (c.in-Ok.ensures ∙ ap (λ (h : Hook). hook_called c.args.limit h (Some c.args.value) (Some c.args.name) c.args.world.now) c.hook_or-hook.ensures) c.call_end.ensures
