use Rattle.std.proofs.Common.{ap, ◌∙◌}
use Rattle.std.specs.Prelude.{codes}
use Rattle.runtest_rules.specs.Rules.{wrapper_fault}
use Rattle.test_suite.specs.declared.hook.Hook.{Hook}
use Rattle.collect_ids.proofs.Called.{failure_opened}
use Rattle.collect_ids.proofs.hook.did_not_yield.Goals as goal

pub returns-in-Ok : goal.returns-in-Ok
returns-in-Ok c = failure_opened _ c.args.world.now _ _ (c.in-Ok.ensures ∙ ap (λ (h : Hook). wrapper_fault h (codes "hook wrapper did not yield") c.args.world.now) c.hook_or.ensures)
