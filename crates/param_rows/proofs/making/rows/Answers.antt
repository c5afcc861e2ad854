use Rattle.std.proofs.Common.{arith}
use Rattle.param_rows.proofs.Short.{short_lists}
use Rattle.param_rows.proofs.making.rows.Goals as goal

pub rows_of-requires : goal.rows_of-requires
rows_of-requires g c = short_lists c.args.fixtures.now c.args.marks.now (omega arith) (omega arith)
