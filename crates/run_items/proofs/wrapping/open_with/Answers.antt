use Rattle.std.proofs.Common.{◌∙◌, ap}
use Rattle.fixture_world.specs.fixture_calls.Hooks.{hook_begun}
use Rattle.test_suite.specs.declared.hook.Hook.{Hook}
use Rattle.run_items.proofs.wrapping.open_with.Goals as goal

pub returns : goal.returns
returns c = c.in_ok-end.ensures ∙ ap (λ (h : Hook). hook_begun c.args.run.now.limit h c.args.given c.args.next c.args.world.now) c.hook_or-hook.ensures
