use Rattle.fixture_instances.proofs.live.LiveFixtures.take.Given as goal

abbrev pub ghosts-unlink : goal.ghosts-unlink
ghosts-unlink g a = record { name = a.blank.name; parts = a.blank.parts }
