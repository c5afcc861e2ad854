use Rattle.frame_stacks.proofs.Listed.{pushed}
use Rattle.frame_stacks.proofs.lists.push_cell.Goals as goal

pub returns-clause-used : goal.returns-clause-used
returns-clause-used g c = (pushed c.args.cells.now c.push_front.new.self c.args.head c.push_front.result c.args.value _ c.requires.head c.push_front.ensures.pushed).used

pub returns-clause-pushed : goal.returns-clause-pushed
returns-clause-pushed g c = (pushed c.args.cells.now c.push_front.new.self c.args.head c.push_front.result c.args.value _ c.requires.head c.push_front.ensures.pushed).values

pub returns-clause-others : goal.returns-clause-others
returns-clause-others g c = (pushed c.args.cells.now c.push_front.new.self c.args.head c.push_front.result c.args.value _ c.requires.head c.push_front.ensures.pushed).others
