use Rattle.std.proofs.Common.{◌++◌, [], IsSome}
use Rattle.link_cells.specs.Arena.{list_at_head, with_list}
use Rattle.link_cells.proofs.Calls.{some_of}
use Rattle.link_cells.proofs.Walks.{some_kept}
use Rattle.fixture_tests.proofs.cells.chain.Goals as goal

pub values_of-requires : goal.values_of-requires
values_of-requires g c =
    let one = c.two_heads-one.result.0 in
    let other = c.two_heads-one.result.1 in
    let a = c.unlink_nth-gone.new.cells in
    let first : IsSome (list_at_head c.fill-2.new.cells one) = rw (c.fill-2.ensures.others one c.two_heads-one.ensures.apart) c.fill.ensures.head in
    let second : IsSome (list_at_head a other) = c.unlink_nth-gone.ensures other c.fill-2.ensures.head in
    let o = some_of (list_at_head a one) (c.unlink_nth-gone.ensures one first) in
    let p = some_of (list_at_head a other) second in
    rw (c.splice_front.ensures.moved o.0 p.0 o.1 p.1) (some_kept (with_list a one []) other other (o.0 ++ p.0) (some_kept a one other [] second))
