use Rattle.link_cells.specs.Arena.{list_at_head}
use Rattle.frame_stacks.proofs.Listed.{emptied}
use Rattle.frame_stacks.proofs.lists.clear.Goals as goal

pub returns-in-None-clause-empty : goal.returns-in-None-clause-empty
returns-in-None-clause-empty g c = emptied (list_at_head c.pop.new.cells c.args.head) c.pop.ensures.used c.in-None.ensures.taken.1
