use Rattle.std.proofs.Common.{ℕ, List, ap, Vec, Global}
use Rattle.py_tree.specs.Statements.{Import}
use Rattle.py_statement_nodes.proofs.simple.import_stmt.Goals as goal

pub returns : goal.returns
returns c = ap (λ (names : Vec (List ℕ) Global). Import c.args.at names.items c.args.alias) c.in_ok-names.ensures.ok
