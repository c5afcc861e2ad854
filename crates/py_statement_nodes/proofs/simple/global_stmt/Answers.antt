use Rattle.std.proofs.Common.{ℕ, List, ap, Vec, Global}
use Rattle.py_tree.specs.Statements.{GlobalOf}
use Rattle.py_statement_nodes.proofs.simple.global_stmt.Goals as goal

pub returns : goal.returns
returns c = ap (λ (names : Vec (List ℕ) Global). GlobalOf c.args.at names.items) c.in_ok-names.ensures.ok
