use Rattle.std.proofs.Common.{length, vec_capacity}
use Rattle.link_cells.proofs.Calls.{head_there}
use Rattle.link_cells.proofs.Starts.{last_in, first_in, front_in, splice_arena, splice_result, splice_none}
use Rattle.link_cells.proofs.cells.Cells.splice_front.Goals as goal

pub links_of-requires : goal.links_of-requires
links_of-requires g c = head_there c.self.inside.words c.self.inside.values.items c.self.inside.used.items c.self.inside.free_heads.items (vec_capacity c.self.inside.free_heads) c.self.inside.spare c.self.invariant (length c.self.inside.free_heads.items) c.args.from (rw (← c.self.view_is) at c.requires.from)

pub join-requires-clause-to : goal.join-requires-clause-to
join-requires-clause-to g c = head_there c.self.inside.words c.self.inside.values.items c.self.inside.used.items c.self.inside.free_heads.items (vec_capacity c.self.inside.free_heads) c.self.inside.spare c.self.invariant (length c.self.inside.free_heads.items) c.args.to (rw (← c.self.view_is) at c.requires.to)

pub join-requires-clause-last : goal.join-requires-clause-last
join-requires-clause-last g c = last_in c.self.inside.words c.self.inside.values.items c.self.inside.used.items c.self.inside.free_heads.items (vec_capacity c.self.inside.free_heads) c.self.inside.spare c.self.invariant (length c.self.inside.free_heads.items) c.args.from c.args.to c.requires.apart (rw (← c.self.view_is) at c.requires.from) (rw (← c.self.view_is) at c.requires.to) c.in-Cell.field-0 (rw c.links_of.ensures at c.in-Cell.is)

pub join-requires-clause-first : goal.join-requires-clause-first
join-requires-clause-first g c = first_in c.self.inside.words c.self.inside.values.items c.self.inside.used.items c.self.inside.free_heads.items (vec_capacity c.self.inside.free_heads) c.self.inside.spare c.self.invariant (length c.self.inside.free_heads.items) c.args.from c.args.to c.requires.apart (rw (← c.self.view_is) at c.requires.from) (rw (← c.self.view_is) at c.requires.to) c.in-Cell.field-0 (rw c.links_of.ensures at c.in-Cell.is)

pub join-requires-clause-front : goal.join-requires-clause-front
join-requires-clause-front g c = front_in c.self.inside.words c.self.inside.values.items c.self.inside.used.items c.self.inside.free_heads.items (vec_capacity c.self.inside.free_heads) c.self.inside.spare c.self.invariant (length c.self.inside.free_heads.items) c.args.from c.args.to c.requires.apart (rw (← c.self.view_is) at c.requires.from) (rw (← c.self.view_is) at c.requires.to) c.in-Cell.field-0 (rw c.links_of.ensures at c.in-Cell.is)

pub invariant_of-self : goal.invariant_of-self
invariant_of-self g c = rw c.join.ensures.words (splice_arena c.self.inside.words c.self.inside.values.items c.self.inside.used.items c.self.inside.free_heads.items (vec_capacity c.self.inside.free_heads) c.self.inside.spare c.self.invariant (length c.self.inside.free_heads.items) c.args.from c.args.to c.requires.apart (rw (← c.self.view_is) at c.requires.from) (rw (← c.self.view_is) at c.requires.to) c.in-Cell.field-0 (rw c.links_of.ensures at c.in-Cell.is))

pub returns-in-Cell-clause-moved : goal.returns-in-Cell-clause-moved
returns-in-Cell-clause-moved g c = rw (← c.self.view_is, c.join.ensures.words) (splice_result c.self.inside.words c.self.inside.values.items c.self.inside.used.items c.self.inside.free_heads.items (vec_capacity c.self.inside.free_heads) c.self.inside.spare c.self.invariant (length c.self.inside.free_heads.items) c.args.from c.args.to c.requires.apart (rw (← c.self.view_is) at c.requires.from) (rw (← c.self.view_is) at c.requires.to) c.in-Cell.field-0 (rw c.links_of.ensures at c.in-Cell.is))

pub returns-in_default-clause-moved : goal.returns-in_default-clause-moved
returns-in_default-clause-moved g c = rw (← c.self.view_is) (splice_none c.self.inside.words c.self.inside.values.items c.self.inside.used.items c.self.inside.free_heads.items (vec_capacity c.self.inside.free_heads) c.self.inside.spare c.self.invariant (length c.self.inside.free_heads.items) c.args.from c.args.to c.requires.apart (rw (← c.self.view_is) at c.requires.from) (rw (← c.self.view_is) at c.requires.to) c.in_default.field-0 (rw c.links_of.ensures at c.in_default.is))
