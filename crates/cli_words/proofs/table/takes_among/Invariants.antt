use Rattle.std.proofs.Common.{◌≡◌, drop}
use Rattle.cli_words.specs.Table.{takes_in}
use Rattle.cli_words.proofs.table.takes_among.Given as goal

abbrev pub invariant-loop-row : goal.invariant-loop-row
invariant-loop-row l = takes_in l.spelling (drop l.row-index l.rows) ≡ takes_in l.spelling l.rows
