use Rattle.std.proofs.Common.{ap, ◌∙◌}
use Rattle.std.specs.Prelude.{codes}
use Rattle.runtest_rules.specs.Rules.{wrapper_fault}
use Rattle.test_suite.specs.Hooks.{hook_at}
use Rattle.test_suite.specs.declared.hook.Hook.{Hook}
use Rattle.runtest_rules.specs.tracebacks.source_meaning.Meaning.{SourceWorld}
use Rattle.collect_ids.proofs.Called.{failure_ran}
use Rattle.collect_ids.proofs.hook.yielded_again.Goals as goal

pub returns-in-Ok : goal.returns-in-Ok
returns-in-Ok c =
    failure_ran _ c.args.world.now _ _
    (c.in-Ok.ensures
    ∙ (ap (λ (h : Hook). wrapper_fault h (codes "hook wrapper yielded twice") c.abandon.new.world) c.hook_or.ensures
    ∙ ap (λ (u : SourceWorld). wrapper_fault (hook_at c.args.table.now c.args.which.now.code) (codes "hook wrapper yielded twice") u) c.abandon.ensures))
