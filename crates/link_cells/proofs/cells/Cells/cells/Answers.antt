use Rattle.std.proofs.Common.{length, arith, ap}
use Rattle.link_cells.proofs.Around.{one_le}
use Rattle.link_cells.proofs.cells.Cells.cells.Goals as goal

pub returns : goal.returns
returns g c =
    let i = c.self.invariant in
    omega (arith, i.spare_is, i.sum, one_le (λ n. length (i.rows n)) 0 (length c.self.inside.words.heads) i.some_head, i.values_many, c.self.inside.values.ok.0, ap (λ v. v.spare) c.self.view_is)
