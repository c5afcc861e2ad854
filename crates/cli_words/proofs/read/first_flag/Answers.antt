use Rattle.cli_words.proofs.Letters.{no_flag_outside}
use Rattle.cli_words.proofs.read.first_flag.Goals as goal

pub returns-in_err-letter : goal.returns-in_err-letter
returns-in_err-letter c = rw c.from_residual.ensures (no_flag_outside c.args.letters.now c.in_err-letter.ensures)
