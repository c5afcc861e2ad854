use Rattle.std.proofs.Common.{ap, ◌∙◌}
use Rattle.py_tree.specs.Statements.{NoStatement, block}
use Rattle.py_tree.proofs.Rows.{block_more}
use Rattle.py_statement_nodes.proofs.compound.add_stmt.Goals as goal

pub returns : goal.returns
returns c = ap block c.in_ok-push.ensures.items ∙ block_more NoStatement c.args.stmts.items c.args.stmt
