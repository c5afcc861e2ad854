use Rattle.py_parse.proofs.Faults.{unexpected_at}
use Rattle.py_parse.proofs.parser.fault_at.Goals as goal

pub returns-else-begins : goal.returns-else-begins
returns-else-begins c = unexpected_at c.args.tokens.now c.first-item.result c.in-len1-up.len_at_least c.first-item.is c.if-begins.ensures
