use Rattle.cell_words.proofs.tests.a_write_gives_back_what_stood_there.Given as goal

abbrev pub ghosts-written : goal.ghosts-written
ghosts-written g a = record { name = a.blank.name; parts = a.blank.parts }
