use Rattle.std.proofs.Common.{vec_capacity, arith}
use Rattle.link_cells.proofs.Heads.{given_is, given_arena, room_left}
use Rattle.link_cells.proofs.Starts.{given_result}
use Rattle.link_cells.proofs.cells.Cells.give_head.Goals as goal

pub index_mut-requires : goal.index_mut-requires
index_mut-requires g c = rw c.self.inside.used.ok.0 (let h = given_is c.self.inside.words c.self.inside.values.items c.self.inside.used.items c.self.inside.free_heads.items (vec_capacity c.self.inside.free_heads) c.self.inside.spare c.self.invariant c.args.head (rw (← c.self.view_is) at c.requires) in let i = c.self.invariant in omega (arith, i.used_many, h.1))

pub unwrap-requires : goal.unwrap-requires
unwrap-requires g c =
    let h = given_is c.self.inside.words c.self.inside.values.items c.self.inside.used.items c.self.inside.free_heads.items (vec_capacity c.self.inside.free_heads) c.self.inside.spare c.self.invariant c.args.head (rw (← c.self.view_is) at c.requires) in
    c.push.ensures.succeeds (rw c.self.inside.free_heads.ok.0 (room_left c.self.inside.words c.self.inside.values.items c.self.inside.used.items c.self.inside.free_heads.items (vec_capacity c.self.inside.free_heads) c.self.inside.spare c.self.invariant c.args.head h.1 h.0 h.2))

pub invariant_of-self : goal.invariant_of-self
invariant_of-self g c = rw (c.push.ensures.items, c.unwrap.ensures) (given_arena c.self.inside.words c.self.inside.values.items c.self.inside.used.items c.self.inside.free_heads.items (vec_capacity c.self.inside.free_heads) c.self.inside.spare c.self.invariant c.args.head (rw (← c.self.view_is) at c.requires) (vec_capacity c.push.new.self) c.push.ensures.capacity)

pub returns : goal.returns
returns g c = rw (← c.self.view_is, c.push.ensures.items, c.unwrap.ensures) (given_result c.self.inside.words c.self.inside.values.items c.self.inside.used.items c.self.inside.free_heads.items (vec_capacity c.self.inside.free_heads) c.self.inside.spare c.self.invariant c.args.head (rw (← c.self.view_is) at c.requires))
