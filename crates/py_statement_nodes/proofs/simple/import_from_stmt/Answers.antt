use Rattle.std.proofs.Common.{ℕ, List, ap, ◌∙◌, Vec, Global}
use Rattle.py_tree.specs.declared.stmt.Alias.{Alias}
use Rattle.py_tree.specs.Statements.{ImportFrom}
use Rattle.py_statement_nodes.proofs.simple.import_from_stmt.Goals as goal

pub returns : goal.returns
returns c = ap (λ (names : Vec (List ℕ) Global). ImportFrom c.args.at names.items c.in_ok-all.all.value.items) c.in_ok-names.ensures.ok ∙ ap (λ (all : Vec Alias Global). ImportFrom c.args.at c.args.names.items all.items) c.in_ok-all.ensures.ok
