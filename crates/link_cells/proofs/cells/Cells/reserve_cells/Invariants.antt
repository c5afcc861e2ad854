use Rattle.std.proofs.Common.{◌≡◌, ◌≤◌, ◌-◌, max}
use Rattle.link_cells.proofs.cells.Cells.reserve_cells.Given as goal

abbrev pub invariant-loop-self : goal.invariant-loop-self
invariant-loop-self g l = record {
  same : l.self ≡ record l.fn.self { spare = l.self.spare };
  kept : l.fn.self.spare ≤ l.self.spare;
  most : l.self.spare ≤ max l.fn.self.spare l.cells;
}

abbrev pub decreases-loop-self : goal.decreases-loop-self
decreases-loop-self g l = l.cells - l.self.spare
