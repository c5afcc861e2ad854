use Rattle.link_cells.proofs.cells.Cells.reserve.Given as goal

abbrev pub ghosts-reserve_cells : goal.ghosts-reserve_cells
ghosts-reserve_cells g a = record { name = a.blank.name; parts = a.blank.parts }
