use Rattle.frame_stacks.proofs.Listed.{in_use, taken}
use Rattle.frame_stacks.proofs.lists.unlink_cell.Goals as goal

pub unlink-requires : goal.unlink-requires
unlink-requires g c = let f = c.requires.first in in_use c.args.cells.now c.args.head c.args.id (record { value = f.1; rest = f.0; list = f.2 })

pub returns-clause-used : goal.returns-clause-used
returns-clause-used g c = let f = c.requires.first in (taken c.args.cells.now c.unlink.new.self c.args.head c.args.id c.unlink.result _ (record { value = f.1; rest = f.0; list = f.2 }) c.unlink.ensures.taken).used

pub returns-clause-taken : goal.returns-clause-taken
returns-clause-taken g c = let f = c.requires.first in (taken c.args.cells.now c.unlink.new.self c.args.head c.args.id c.unlink.result _ (record { value = f.1; rest = f.0; list = f.2 }) c.unlink.ensures.taken).values

pub returns-clause-others : goal.returns-clause-others
returns-clause-others g c = let f = c.requires.first in (taken c.args.cells.now c.unlink.new.self c.args.head c.args.id c.unlink.result _ (record { value = f.1; rest = f.0; list = f.2 }) c.unlink.ensures.taken).others
