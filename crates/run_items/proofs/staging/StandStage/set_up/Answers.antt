use Rattle.run_items.proofs.staging.StandStage.set_up.Goals as goal

pub returns-clause-state : goal.returns-clause-state
returns-clause-state c = c.in_ok-raised.ensures.state

pub returns-clause-here : goal.returns-clause-here
returns-clause-here c = (c.requires.here.0, c.in_ok-raised.ensures.frames)

pub set_up-requires-clause-plan : goal.set_up-requires-clause-plan
set_up-requires-clause-plan c = c.requires.here.0

pub set_up-requires-clause-frames : goal.set_up-requires-clause-frames
set_up-requires-clause-frames c = c.requires.here.1
