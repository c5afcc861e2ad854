use Rattle.std.proofs.Common.{None, lit<}
use Rattle.std.proofs.lemmas.Str.Pattern.{strip_prefix_char}
use Rattle.cli_words.proofs.Cuts.{whole_value}
use Rattle.cli_words.proofs.read.value_behind.Goals as goal

pub returns-in-None : goal.returns-in-None
returns-in-None c = whole_value c.args.letters.now (λ e. let f = rw e at c.if-is_empty.ensures in cc f) (strip_prefix_char 61 c.args.letters.now None c.in-None.ensures.cases (lit< tt))
