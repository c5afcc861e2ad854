use Rattle.std.proofs.Common.{length, vec_capacity, arith, sym, ◌∙◌}
use Rattle.link_cells.proofs.Calls.{cell_there, some_same}
use Rattle.link_cells.proofs.Starts.{at_value, at_some}
use Rattle.link_cells.proofs.Replaced.{replaced_arena, replaced_result}
use Rattle.link_cells.proofs.cells.Cells.replace.Goals as goal

pub index_mut-requires : goal.index_mut-requires
index_mut-requires g c = rw (c.self.inside.values.ok.0, c.cell.ensures) (let h = cell_there c.self.inside.words c.self.inside.values.items c.self.inside.used.items c.self.inside.free_heads.items (vec_capacity c.self.inside.free_heads) c.self.inside.spare c.self.invariant (length c.self.inside.free_heads.items) c.args.id (rw (← c.self.view_is) at c.requires) in omega (arith, c.self.invariant.values_many))

pub unwrap-requires : goal.unwrap-requires
unwrap-requires g c = rw c.replace.ensures.value (at_some c.self.inside.words c.self.inside.values.items c.self.inside.used.items c.self.inside.free_heads.items (vec_capacity c.self.inside.free_heads) c.self.inside.spare c.self.invariant (length c.self.inside.free_heads.items) c.args.id (rw (← c.self.view_is) at c.requires) c.cell.result c.index_mut.result.now c.cell.ensures c.index_mut.ensures.value)

pub invariant_of-self : goal.invariant_of-self
invariant_of-self g c = replaced_arena c.self.inside.words c.self.inside.values.items c.self.inside.used.items c.self.inside.free_heads.items (vec_capacity c.self.inside.free_heads) c.self.inside.spare c.self.invariant (length c.self.inside.free_heads.items) c.args.id c.args.value c.cell.result c.replace.new.self c.cell.ensures c.replace.ensures.after

pub returns : goal.returns
returns g c =
    rw (← c.self.view_is)
    (λ head front before back e. (
      some_same (sym c.unwrap.ensures ∙ c.replace.ensures.value ∙ at_value c.self.inside.words c.self.inside.values.items c.self.inside.used.items c.self.inside.free_heads.items (vec_capacity c.self.inside.free_heads) c.self.inside.spare c.self.invariant (length c.self.inside.free_heads.items) c.args.id head front before back e c.cell.result c.index_mut.result.now c.cell.ensures c.index_mut.ensures.value),
      replaced_result c.self.inside.words c.self.inside.values.items c.self.inside.used.items c.self.inside.free_heads.items (vec_capacity c.self.inside.free_heads) c.self.inside.spare c.self.invariant (length c.self.inside.free_heads.items) c.args.id c.args.value head front before back e c.cell.result c.replace.new.self c.cell.ensures c.replace.ensures.after,
    ))
