use Rattle.std.proofs.Common.{length, vec_capacity}
use Rattle.link_cells.proofs.Calls.{spare_row, can_push, cell_in, push_back_arena, push_back_result, push_fresh}
use Rattle.link_cells.proofs.cells.Cells.push_back.Goals as goal

pub cell_of-cell-requires : goal.cell_of-cell-requires
cell_of-cell-requires g c =
    let s = spare_row c.self.inside.words c.self.inside.values.items c.self.inside.used.items c.self.inside.free_heads.items (vec_capacity c.self.inside.free_heads) c.self.inside.spare c.self.invariant (length c.self.inside.free_heads.items) (rw (← c.self.view_is) at c.requires.room) in
    (s.0, rw c.links_of.ensures s.3)

pub move_back-requires : goal.move_back-requires
move_back-requires g c = can_push c.self.inside.words c.self.inside.values.items c.self.inside.used.items c.self.inside.free_heads.items (vec_capacity c.self.inside.free_heads) c.self.inside.spare c.self.invariant (length c.self.inside.free_heads.items) c.cell_of-cell.result c.args.head (rw c.links_of.ensures at c.cell_of-cell.ensures) (rw (← c.self.view_is) at c.requires.head)

pub index_mut-requires : goal.index_mut-requires
index_mut-requires g c = rw c.self.inside.values.ok.0 (cell_in c.self.inside.words c.self.inside.values.items c.self.inside.used.items c.self.inside.free_heads.items (vec_capacity c.self.inside.free_heads) c.self.inside.spare c.self.invariant (length c.self.inside.free_heads.items) c.cell_of-cell.result c.args.head (rw c.links_of.ensures at c.cell_of-cell.ensures) (rw (← c.self.view_is) at c.requires.head))

pub invariant_of-self : goal.invariant_of-self
invariant_of-self g c = rw c.move_back.ensures.words (push_back_arena c.self.inside.words c.self.inside.values.items c.self.inside.used.items c.self.inside.free_heads.items (vec_capacity c.self.inside.free_heads) c.self.inside.spare c.self.invariant (length c.self.inside.free_heads.items) c.cell_of-cell.result c.args.head (rw c.links_of.ensures at c.cell_of-cell.ensures) (rw (← c.self.view_is) at c.requires.head) c.args.value)

pub returns-clause-pushed : goal.returns-clause-pushed
returns-clause-pushed g c =
    rw (← c.self.view_is, c.new.ensures, c.move_back.ensures.words) (push_back_result c.self.inside.words c.self.inside.values.items c.self.inside.used.items c.self.inside.free_heads.items (vec_capacity c.self.inside.free_heads) c.self.inside.spare c.self.invariant (length c.self.inside.free_heads.items) c.cell_of-cell.result c.args.head (rw c.links_of.ensures at c.cell_of-cell.ensures) (rw (← c.self.view_is) at c.requires.head) c.args.value)

pub returns-clause-fresh : goal.returns-clause-fresh
returns-clause-fresh g c =
    rw (← c.self.view_is, c.new.ensures) (push_fresh c.self.inside.words c.self.inside.values.items c.self.inside.used.items c.self.inside.free_heads.items (vec_capacity c.self.inside.free_heads) c.self.inside.spare c.self.invariant (length c.self.inside.free_heads.items) c.cell_of-cell.result c.args.head (rw c.links_of.ensures at c.cell_of-cell.ensures) (rw (← c.self.view_is) at c.requires.head))
