use Rattle.frame_stacks.proofs.Listed.{moved}
use Rattle.frame_stacks.proofs.lists.splice_cells.Goals as goal

pub returns-clause-empty : goal.returns-clause-empty
returns-clause-empty g c = (moved c.args.cells.now c.splice_front.new.self c.args.from c.args.to c.requires.apart c.requires.from c.requires.to c.splice_front.ensures.moved).empty

pub returns-clause-used : goal.returns-clause-used
returns-clause-used g c = (moved c.args.cells.now c.splice_front.new.self c.args.from c.args.to c.requires.apart c.requires.from c.requires.to c.splice_front.ensures.moved).used

pub returns-clause-moved : goal.returns-clause-moved
returns-clause-moved g c = (moved c.args.cells.now c.splice_front.new.self c.args.from c.args.to c.requires.apart c.requires.from c.requires.to c.splice_front.ensures.moved).values

pub returns-clause-others : goal.returns-clause-others
returns-clause-others g c = (moved c.args.cells.now c.splice_front.new.self c.args.from c.args.to c.requires.apart c.requires.from c.requires.to c.splice_front.ensures.moved).others
