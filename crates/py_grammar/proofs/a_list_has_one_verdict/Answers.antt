use Rattle.py_grammar.proofs.Verdicts.{one_verdict}
use Rattle.py_grammar.proofs.a_list_has_one_verdict.Goals as goal

pub returns : goal.returns
returns c = one_verdict
