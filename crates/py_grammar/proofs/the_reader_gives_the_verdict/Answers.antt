use Rattle.py_grammar.proofs.Verdicts.{read_verdict, verdict_read}
use Rattle.py_grammar.proofs.the_reader_gives_the_verdict.Goals as goal

pub returns : goal.returns
returns c = record { is = read_verdict; only = verdict_read }
