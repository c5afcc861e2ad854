use Rattle.fixture_instances.proofs.live.LiveFixtures.link.Given as goal

abbrev pub ghosts-link : goal.ghosts-link
ghosts-link g a = record { name = a.blank.name; parts = a.blank.parts }
