use Rattle.frame_stacks.proofs.lists.push.Given as goal

abbrev pub ghosts-push_cell : goal.ghosts-push_cell
ghosts-push_cell g a = record { name = a.blank.name; parts = a.blank.parts }
