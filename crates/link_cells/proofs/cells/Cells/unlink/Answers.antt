use Rattle.std.proofs.Common.{length, vec_capacity, arith, sym, ◌∙◌}
use Rattle.link_cells.proofs.Calls.{can_unlink, few_spare, cell_there, some_same}
use Rattle.link_cells.proofs.Starts.{at_unlink, at_unlink_result, at_value, at_some}
use Rattle.link_cells.proofs.cells.Cells.unlink.Goals as goal

pub move_front-requires : goal.move_front-requires
move_front-requires g c = rw c.cell-cell.ensures (can_unlink c.self.inside.words c.self.inside.values.items c.self.inside.used.items c.self.inside.free_heads.items (vec_capacity c.self.inside.free_heads) c.self.inside.spare c.self.invariant (length c.self.inside.free_heads.items) c.args.id (rw (← c.self.view_is) at c.requires))

pub overflow_add-self : goal.overflow_add-self
overflow_add-self g c = let few = few_spare c.self.inside.words c.self.inside.values.items c.self.inside.used.items c.self.inside.free_heads.items (vec_capacity c.self.inside.free_heads) c.self.inside.spare c.self.invariant (length c.self.inside.free_heads.items) c.args.id (rw (← c.self.view_is) at c.requires) in omega (arith, few, c.self.inside.values.small, c.self.inside.values.ok.0)

pub index_mut-requires : goal.index_mut-requires
index_mut-requires g c = rw (c.self.inside.values.ok.0, c.cell-cell.ensures) (let h = cell_there c.self.inside.words c.self.inside.values.items c.self.inside.used.items c.self.inside.free_heads.items (vec_capacity c.self.inside.free_heads) c.self.inside.spare c.self.invariant (length c.self.inside.free_heads.items) c.args.id (rw (← c.self.view_is) at c.requires) in omega (arith, c.self.invariant.values_many))

pub unwrap-requires : goal.unwrap-requires
unwrap-requires g c = rw c.take.ensures.value (at_some c.self.inside.words c.self.inside.values.items c.self.inside.used.items c.self.inside.free_heads.items (vec_capacity c.self.inside.free_heads) c.self.inside.spare c.self.invariant (length c.self.inside.free_heads.items) c.args.id (rw (← c.self.view_is) at c.requires) c.cell-cell.result c.index_mut.result.now c.cell-cell.ensures c.index_mut.ensures.value)

pub invariant_of-self : goal.invariant_of-self
invariant_of-self g c = at_unlink c.self.inside.words c.self.inside.values.items c.self.inside.used.items c.self.inside.free_heads.items (vec_capacity c.self.inside.free_heads) c.self.inside.spare c.self.invariant (length c.self.inside.free_heads.items) c.args.id (rw (← c.self.view_is) at c.requires) c.move_front.new.words c.cell-cell.result c.take.new.self c.move_front.ensures.words c.cell-cell.ensures c.take.ensures.after

pub returns-clause-taken : goal.returns-clause-taken
returns-clause-taken g c =
    rw (← c.self.view_is)
    (λ head front value back e. (
      some_same (sym c.unwrap.ensures ∙ c.take.ensures.value ∙ at_value c.self.inside.words c.self.inside.values.items c.self.inside.used.items c.self.inside.free_heads.items (vec_capacity c.self.inside.free_heads) c.self.inside.spare c.self.invariant (length c.self.inside.free_heads.items) c.args.id head front value back e c.cell-cell.result c.index_mut.result.now c.cell-cell.ensures c.index_mut.ensures.value),
      at_unlink_result c.self.inside.words c.self.inside.values.items c.self.inside.used.items c.self.inside.free_heads.items (vec_capacity c.self.inside.free_heads) c.self.inside.spare c.self.invariant (length c.self.inside.free_heads.items) c.args.id head front value back e c.move_front.new.words c.cell-cell.result c.take.new.self c.move_front.ensures.words c.cell-cell.ensures c.take.ensures.after,
    ))
