use Rattle.std.proofs.Common.{◌++◌}
use Rattle.link_cells.proofs.Walks.{some_kept}
use Rattle.fixture_tests.proofs.cells.unlink_nth.Goals as goal

pub returns-in-Some : goal.returns-in-Some
returns-in-Some g c =
    let u = c.in-Some.ensures in
    λ k some. rw (c.unlink.ensures.taken u.0 u.1 u.2 u.3 u.4).1 (some_kept c.args.cells.now u.0 k (u.1 ++ u.3) some)
