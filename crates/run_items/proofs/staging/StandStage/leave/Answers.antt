use Rattle.run_items.proofs.staging.StandStage.leave.Goals as goal

pub returns-clause-state : goal.returns-clause-state
returns-clause-state c = c.in_ok-raised.ensures.state

pub returns-clause-here : goal.returns-clause-here
returns-clause-here c = (c.requires.here.0, c.in_ok-raised.ensures.frames)

pub tear_down-requires-clause-plan : goal.tear_down-requires-clause-plan
tear_down-requires-clause-plan c = c.requires.here.0

pub tear_down-requires-clause-frames : goal.tear_down-requires-clause-frames
tear_down-requires-clause-frames c = c.requires.here.1
