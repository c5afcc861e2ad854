use Rattle.std.proofs.Common.{◌≡◌, ◌≤◌, ◌-◌, ℕ, max}
use Rattle.link_cells.specs.Arena.{list_at_head}
use Rattle.link_cells.proofs.cells.Cells.reserve_heads.Given as goal

abbrev pub invariant-loop-self : goal.invariant-loop-self
invariant-loop-self g l = record {
  lists : (h : ℕ) → list_at_head l.self h ≡ list_at_head l.fn.self h;
  same : l.self.spare ≡ l.fn.self.spare;
  kept : l.fn.self.spare_heads ≤ l.self.spare_heads;
  most : l.self.spare_heads ≤ max l.fn.self.spare_heads l.heads;
}

abbrev pub decreases-loop-self : goal.decreases-loop-self
decreases-loop-self g l = l.heads - l.self.spare_heads
