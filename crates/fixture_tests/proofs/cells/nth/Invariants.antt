use Rattle.link_cells.proofs.Walks.{Walks}
use Rattle.fixture_tests.proofs.cells.nth.Given as goal

abbrev pub invariant-loop : goal.invariant-loop
invariant-loop l = Walks l.cells l.head l.at
