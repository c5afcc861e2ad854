use Rattle.run_items.proofs.hook_stage.StandHookStage.make_ready.Goals as goal

pub returns-clause-state : goal.returns-clause-state
returns-clause-state c = c.in_ok-make_ready.ensures
