use Rattle.run_items.proofs.hook_stage.StandHookStage.hooks.Goals as goal

pub returns-clause-hooks : goal.returns-clause-hooks
returns-clause-hooks c = c.in_ok-hooks.ensures.hooks

pub returns-clause-order : goal.returns-clause-order
returns-clause-order c = c.in_ok-hooks.ensures.order
