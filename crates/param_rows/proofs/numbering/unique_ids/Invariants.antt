use Rattle.std.proofs.Common.{◌≡◌, ◌++◌, drop}
use Rattle.param_rows.specs.Ids.{made_from, unique_of}
use Rattle.param_rows.specs.Taken.{TellsMade}
use Rattle.param_rows.proofs.numbering.unique_ids.Given as goal

abbrev pub invariant-loop-id : goal.invariant-loop-id
invariant-loop-id l = (l.made.items ++ made_from l.ids l.made.items (drop l.id-index l.ids) ≡ unique_of l.ids) × TellsMade l.ids l.made.items l.table
