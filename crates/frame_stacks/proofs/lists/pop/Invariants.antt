use Rattle.frame_stacks.proofs.lists.pop.Given as goal

abbrev pub ghosts-unlink_cell : goal.ghosts-unlink_cell
ghosts-unlink_cell g a = record { name = a.blank.name; parts = a.blank.parts }
