use Rattle.run_items.proofs.hook_stage.StandHookStage.implement.Goals as goal

pub returns-clause-answer : goal.returns-clause-answer
returns-clause-answer c = c.in_ok-end.ensures.answer

pub returns-clause-state : goal.returns-clause-state
returns-clause-state c = c.in_ok-end.ensures.state
