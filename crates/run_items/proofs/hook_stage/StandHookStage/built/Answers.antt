use Rattle.run_items.proofs.hook_stage.StandHookStage.built.Goals as goal

pub returns-clause-state : goal.returns-clause-state
returns-clause-state c = c.in_ok-raised.ensures
