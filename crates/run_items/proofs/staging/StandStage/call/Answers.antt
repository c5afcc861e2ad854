use Rattle.run_items.proofs.staging.StandStage.call.Goals as goal

pub returns-clause-state : goal.returns-clause-state
returns-clause-state c = c.in_ok-raised.ensures.state

pub returns-clause-here : goal.returns-clause-here
returns-clause-here c = (c.requires.here.0, c.in_ok-raised.ensures.frames)

pub call-requires-clause-plan : goal.call-requires-clause-plan
call-requires-clause-plan c = c.requires.here.0

pub call-requires-clause-frames : goal.call-requires-clause-frames
call-requires-clause-frames c = c.requires.here.1
