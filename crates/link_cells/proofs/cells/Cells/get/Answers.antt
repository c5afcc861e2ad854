use Rattle.std.proofs.Common.{length, vec_capacity, arith, ap, sym, ◌∙◌}
use Rattle.std.specs.Option.{option_copied}
use Rattle.link_cells.proofs.Calls.{cell_there, some_same}
use Rattle.link_cells.proofs.Starts.{at_value, at_some}
use Rattle.link_cells.proofs.cells.Cells.get.Goals as goal

pub index-requires : goal.index-requires
index-requires g c = rw (c.self.inside.values.ok.0, c.cell.ensures) (let h = cell_there c.self.inside.words c.self.inside.values.items c.self.inside.used.items c.self.inside.free_heads.items (vec_capacity c.self.inside.free_heads) c.self.inside.spare c.self.invariant (length c.self.inside.free_heads.items) c.args.id (rw (← c.self.view_is) at c.requires) in omega (arith, c.self.invariant.values_many))

pub unwrap-requires : goal.unwrap-requires
unwrap-requires g c = c.as_ref.ensures.variant ∙ at_some c.self.inside.words c.self.inside.values.items c.self.inside.used.items c.self.inside.free_heads.items (vec_capacity c.self.inside.free_heads) c.self.inside.spare c.self.invariant (length c.self.inside.free_heads.items) c.args.id (rw (← c.self.view_is) at c.requires) c.cell.result c.index.result.now c.cell.ensures c.index.ensures

pub returns : goal.returns
returns g c = rw (← c.self.view_is) (λ head front value back e.
    some_same (sym (ap option_copied c.unwrap.ensures) ∙ c.as_ref.ensures.value ∙ at_value c.self.inside.words c.self.inside.values.items c.self.inside.used.items c.self.inside.free_heads.items (vec_capacity c.self.inside.free_heads) c.self.inside.spare c.self.invariant (length c.self.inside.free_heads.items) c.args.id head front value back e c.cell.result c.index.result.now c.cell.ensures c.index.ensures))
