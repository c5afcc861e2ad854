use Rattle.literal_law.proofs.Numerals.{written}
use Rattle.literal_law.proofs.numerals_write_numbers.Goals as goal

pub returns : goal.returns
returns c = written
