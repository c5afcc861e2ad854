use Rattle.std.proofs.Common.{vec_capacity, arith}
use Rattle.link_cells.proofs.Heads.{head_is, taken_arena, taken_was}
use Rattle.link_cells.proofs.Starts.{taken_result, taken_listed}
use Rattle.link_cells.proofs.cells.Cells.take_head.Goals as goal

pub index_mut-requires : goal.index_mut-requires
index_mut-requires g c = rw c.self.inside.used.ok.0 (let h = head_is c.self.inside.words c.self.inside.values.items c.self.inside.used.items c.self.inside.free_heads.items (vec_capacity c.self.inside.free_heads) c.self.inside.spare c.self.invariant c.unwrap-head.result c.pop.new.self.items (rw c.unwrap-head.ensures at c.pop.ensures.items) in omega (arith, c.self.invariant.used_many))

pub invariant_of-self : goal.invariant_of-self
invariant_of-self g c = rw c.pop.ensures.capacity (taken_arena c.self.inside.words c.self.inside.values.items c.self.inside.used.items c.self.inside.free_heads.items (vec_capacity c.self.inside.free_heads) c.self.inside.spare c.self.invariant c.unwrap-head.result c.pop.new.self.items (rw c.unwrap-head.ensures at c.pop.ensures.items))

pub returns-clause-spare : goal.returns-clause-spare
returns-clause-spare g c = rw (← c.self.view_is) (taken_was c.self.inside.words c.self.inside.values.items c.self.inside.used.items c.self.inside.free_heads.items (vec_capacity c.self.inside.free_heads) c.self.inside.spare c.self.invariant c.unwrap-head.result c.pop.new.self.items (rw c.unwrap-head.ensures at c.pop.ensures.items))

pub returns-clause-taken : goal.returns-clause-taken
returns-clause-taken g c = rw (← c.self.view_is) (taken_result c.self.inside.words c.self.inside.values.items c.self.inside.used.items c.self.inside.free_heads.items (vec_capacity c.self.inside.free_heads) c.self.inside.spare c.self.invariant c.unwrap-head.result c.pop.new.self.items (rw c.unwrap-head.ensures at c.pop.ensures.items))

pub returns-clause-listed : goal.returns-clause-listed
returns-clause-listed g c = taken_listed c.self.inside.words c.self.inside.values.items c.self.inside.used.items c.self.inside.free_heads.items (vec_capacity c.self.inside.free_heads) c.self.inside.spare c.self.invariant c.unwrap-head.result c.pop.new.self.items (rw c.unwrap-head.ensures at c.pop.ensures.items)
