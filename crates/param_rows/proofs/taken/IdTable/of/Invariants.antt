use Rattle.std.proofs.Common.{take}
use Rattle.param_rows.specs.Taken.{TellsIds}
use Rattle.param_rows.proofs.taken.IdTable.of.Given as goal

abbrev pub invariant-loop-id : goal.invariant-loop-id
invariant-loop-id l = TellsIds (take l.id-index l.ids) l.table
