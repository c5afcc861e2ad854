use Rattle.link_cells.specs.Arena.{list_at_head}
use Rattle.link_cells.proofs.Calls.{some_of}
use Rattle.link_cells.proofs.Walks.{walk_starts, walk_in_use, walk_next, walk_found}
use Rattle.fixture_tests.proofs.cells.nth.Goals as goal

pub loop-init : goal.loop-init
loop-init c =
    let o = some_of (list_at_head c.args.cells.now c.args.head) c.requires in
    walk_starts c.args.cells.now c.args.head o.0 c.first-at.result o.1 (c.first-at.ensures o.0 o.1)

pub next-at-requires : goal.next-at-requires
next-at-requires c = walk_in_use c.args.cells.now c.args.head c.in_ok-at.field-0 (rw c.in_ok-at.was at c.loop.invariant)

pub loop-preserved : goal.loop-preserved
loop-preserved c = walk_next c.args.cells.now c.args.head c.in_ok-at.field-0 (rw c.in_ok-at.was at c.loop.invariant) c.next-at.result c.next-at.ensures

pub returns : goal.returns
returns c = walk_found c.args.cells.now c.args.head c.loop.at c.loop.invariant
