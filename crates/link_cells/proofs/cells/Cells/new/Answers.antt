use Rattle.link_cells.proofs.Starts.{first_arena}
use Rattle.link_cells.proofs.cells.Cells.new.Goals as goal

pub invariant_of-result : goal.invariant_of-result
invariant_of-result g c =
    rw (c.in_ok-grow_heads.ensures.ok, c.in_ok-words.ensures, c.alone.ensures, c.new-2.ensures.items, c.in_ok-push.ensures.items, c.new-used.ensures.items, c.in_ok-free_heads.ensures.items, c.in_ok-free_heads.ensures.exact) first_arena
