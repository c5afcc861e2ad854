use Rattle.frame_stacks.proofs.Listed.{is_empty, is_first, no_values}
use Rattle.frame_stacks.proofs.lists.pop.Goals as goal

pub unlink_cell-requires-clause-first : goal.unlink_cell-requires-clause-first
unlink_cell-requires-clause-first g c =
    let f = is_first c.args.cells.now c.args.head c.in-Some.id c.first.result c.requires c.first.ensures c.in-Some.is in
    (f.rest, f.value, f.list)

pub returns-in-None-clause-taken : goal.returns-in-None-clause-taken
returns-in-None-clause-taken g c =
    let none = no_values c.args.cells.now c.args.head (is_empty c.args.cells.now c.args.head c.first.result c.requires c.first.ensures c.in-None.is) in
    (none, none)
