use Rattle.py_grammar.proofs.Verdicts.{has_verdict}
use Rattle.py_grammar.proofs.an_ended_list_has_a_verdict.Goals as goal

pub returns : goal.returns
returns c = has_verdict
