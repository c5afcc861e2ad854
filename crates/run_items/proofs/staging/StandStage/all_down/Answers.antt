use Rattle.run_items.proofs.staging.StandStage.all_down.Goals as goal

pub returns-clause-state : goal.returns-clause-state
returns-clause-state c = c.in_ok-raised.ensures.state

pub returns-clause-here : goal.returns-clause-here
returns-clause-here c = (c.requires.here.0, c.in_ok-raised.ensures.frames)

pub all_down-requires-clause-plan : goal.all_down-requires-clause-plan
all_down-requires-clause-plan c = c.requires.here.0

pub all_down-requires-clause-frames : goal.all_down-requires-clause-frames
all_down-requires-clause-frames c = c.requires.here.1
