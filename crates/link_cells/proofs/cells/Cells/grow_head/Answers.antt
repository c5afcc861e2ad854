use Rattle.std.proofs.Common.{vec_capacity, arith}
use Rattle.link_cells.proofs.Grown.{wider_arena, wider_view}
use Rattle.link_cells.proofs.cells.Cells.grow_head.Goals as goal

pub invariant_of-self-2 : goal.invariant_of-self-2
invariant_of-self-2 g c = rw (c.push.ensures.items, c.unwrap.ensures, c.reserve.ensures.items, c.push-2.ensures.items, c.unwrap-2.ensures, c.reserve-2.ensures.items, c.in_ok-grow_heads.ensures.ok, c.alone.ensures, c.len-head.ensures, c.self.inside.used.ok.0, c.self.invariant.used_many)
    (wider_arena c.self.inside.words c.self.inside.values.items c.self.inside.used.items c.self.inside.free_heads.items (vec_capacity c.self.inside.free_heads) c.self.inside.spare c.self.invariant (vec_capacity c.push-2.new.self) (omega (arith, c.in_ok-reserve-2.ensures.ok, c.push-2.ensures.capacity, c.len-head.ensures, c.self.inside.used.ok.0, c.self.invariant.used_many)))

pub returns-clause-lists : goal.returns-clause-lists
returns-clause-lists g c = rw (← c.self.view_is, c.push.ensures.items, c.unwrap.ensures, c.reserve.ensures.items, c.in_ok-grow_heads.ensures.ok, c.alone.ensures, c.len-head.ensures, c.self.inside.used.ok.0, c.self.invariant.used_many) (wider_view c.self.inside.words c.self.inside.values.items c.self.inside.used.items c.self.inside.free_heads.items (vec_capacity c.self.inside.free_heads) c.self.inside.spare c.self.invariant)
