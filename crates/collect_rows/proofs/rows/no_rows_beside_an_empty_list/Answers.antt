use Rattle.collect_rows.proofs.Seen.{fault_beside_none}
use Rattle.collect_rows.proofs.rows.no_rows_beside_an_empty_list.Goals as goal

pub returns : goal.returns
returns c = λ ids marks known e. fault_beside_none ids marks known e
