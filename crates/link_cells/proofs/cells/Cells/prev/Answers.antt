use Rattle.std.proofs.Common.{length, vec_capacity}
use Rattle.link_cells.proofs.Calls.{cell_there, prev_result}
use Rattle.link_cells.proofs.cells.Cells.prev.Goals as goal

pub links_of-requires : goal.links_of-requires
links_of-requires g c = rw c.cell.ensures (cell_there c.self.inside.words c.self.inside.values.items c.self.inside.used.items c.self.inside.free_heads.items (vec_capacity c.self.inside.free_heads) c.self.inside.spare c.self.invariant (length c.self.inside.free_heads.items) c.args.id (rw (← c.self.view_is) at c.requires))

pub returns : goal.returns
returns g c = rw (← c.self.view_is, c.named.ensures, c.links_of.ensures, c.cell.ensures) (prev_result c.self.inside.words c.self.inside.values.items c.self.inside.used.items c.self.inside.free_heads.items (vec_capacity c.self.inside.free_heads) c.self.inside.spare c.self.invariant (length c.self.inside.free_heads.items) c.args.id)
