use Rattle.fixture_tests.proofs.cells.is_as_plain.Given as goal

abbrev pub ghosts-chain : goal.ghosts-chain
ghosts-chain a = record { name = a.blank.name; parts = a.blank.parts }
