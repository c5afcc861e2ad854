use Rattle.run_items.proofs.calling.call_hooked.Goals as goal

pub in_hooks-requires-clause-here : goal.in_hooks-requires-clause-here
in_hooks-requires-clause-here c = c.requires.plan

pub in_hooks-requires-clause-known : goal.in_hooks-requires-clause-known
in_hooks-requires-clause-known c = c.requires.item

pub in_hooks-requires-clause-next : goal.in_hooks-requires-clause-next
in_hooks-requires-clause-next c = tt

pub returns-clause-state : goal.returns-clause-state
returns-clause-state c = c.in_ok-raised.ensures.state

pub in_hooks-requires-clause-frames : goal.in_hooks-requires-clause-frames
in_hooks-requires-clause-frames c = c.requires.frames

pub returns-clause-frames : goal.returns-clause-frames
returns-clause-frames c = c.in_ok-raised.ensures.frames
