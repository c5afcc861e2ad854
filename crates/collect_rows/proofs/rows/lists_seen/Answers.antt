use Rattle.collect_rows.proofs.Seen.{fault_seen, rows_seen}
use Rattle.collect_rows.proofs.rows.lists_seen.Goals as goal

pub returns : goal.returns
returns c = record {
  rows = λ fixtures marks. rows_seen fixtures marks;
  fault = λ fixtures marks known. fault_seen fixtures marks known;
}
