use Rattle.frame_stacks.proofs.lists.splice.Given as goal

abbrev pub ghosts-splice_cells : goal.ghosts-splice_cells
ghosts-splice_cells g a = record { name = a.blank.name; parts = a.blank.parts }
