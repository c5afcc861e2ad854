use Rattle.run_items.proofs.hook_stage.StandHookStage.resume_with_value.Goals as goal

pub returns-clause-how : goal.returns-clause-how
returns-clause-how c = c.in_ok-end.ensures.how

pub returns-clause-state : goal.returns-clause-state
returns-clause-state c = c.in_ok-end.ensures.state
