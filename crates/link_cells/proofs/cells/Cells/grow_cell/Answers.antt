use Rattle.std.proofs.Common.{length, vec_capacity, arith, ap, ◌∙◌}
use Rattle.link_cells.specs.declared.link.Links.{Links}
use Rattle.link_cells.proofs.Grown.{ahead_in}
use Rattle.link_cells.proofs.Starts.{spare_le, at_grown, at_grown_result}
use Rattle.link_cells.proofs.cells.Cells.grow_cell.Goals as goal

pub attach-requires-clause-ahead : goal.attach-requires-clause-ahead
attach-requires-clause-ahead g c = rw (c.links_of-first.ensures, c.in_ok-grow_cells.ensures.ok, c.alone.ensures) (ahead_in c.self.inside.words c.self.inside.values.items c.self.inside.used.items c.self.inside.free_heads.items (vec_capacity c.self.inside.free_heads) c.self.inside.spare c.self.invariant)

pub overflow_add-self : goal.overflow_add-self
overflow_add-self g c = let few = spare_le c.self.inside.words c.self.inside.values.items c.self.inside.used.items c.self.inside.free_heads.items (vec_capacity c.self.inside.free_heads) c.self.inside.spare c.self.invariant in omega (arith, few, c.self.inside.values.small, c.self.inside.values.ok.0)

pub invariant_of-self-2 : goal.invariant_of-self-2
invariant_of-self-2 g c = rw (c.push.ensures.items, c.unwrap.ensures, c.reserve.ensures.items) (at_grown c.self.inside.words c.self.inside.values.items c.self.inside.used.items c.self.inside.free_heads.items (vec_capacity c.self.inside.free_heads) c.self.inside.spare c.self.invariant c.attach.new.words c.grow_cells.new.self c.len-cell.result c.alone.result c.links_of-first.result.ahead c.in_ok-grow_cells.ensures.ok c.alone.ensures (c.len-cell.ensures ∙ c.self.inside.values.ok.0 ∙ c.self.invariant.values_many) (ap (λ (l : Links). l.ahead) c.links_of-first.ensures) c.attach.ensures.words)

pub returns-clause-ok : goal.returns-clause-ok
returns-clause-ok g c = rw (← c.self.view_is, c.push.ensures.items, c.unwrap.ensures, c.reserve.ensures.items) (at_grown_result c.self.inside.words c.self.inside.values.items c.self.inside.used.items c.self.inside.free_heads.items (vec_capacity c.self.inside.free_heads) c.self.inside.spare c.self.invariant c.attach.new.words c.grow_cells.new.self c.len-cell.result c.alone.result c.links_of-first.result.ahead c.in_ok-grow_cells.ensures.ok c.alone.ensures (c.len-cell.ensures ∙ c.self.inside.values.ok.0 ∙ c.self.invariant.values_many) (ap (λ (l : Links). l.ahead) c.links_of-first.ensures) c.attach.ensures.words (length c.self.inside.free_heads.items))
