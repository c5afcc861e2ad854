use Rattle.std.proofs.Common.{◌≡◌, None, Some, Option, IfOk, MatchOption, ap, sym, ◌∙◌, subst}
use Rattle.py_tree.specs.Trees.{trees}
use Rattle.py_tree.specs.Statements.{Taker, taker}
use Rattle.py_statement_nodes.specs.Targets.{parts_in}
use Rattle.py_statement_nodes.proofs.Rows.{tuple_taker}
use Rattle.py_statement_nodes.proofs.targets.target_in.Goals as goal

pub returns-in-Tuple : goal.returns-in-Tuple
returns-in-Tuple c =
    subst (λ (v : Option Taker). IfOk c.parts_in.result (λ found. MatchOption found (v ≡ None) (λ target. v ≡ Some (taker target))))
    (ap (λ s. parts_in (trees s)) (c.deref-in-Tuple.ensures.value ∙ ap (λ v. v.items) c.deref.ensures) ∙ sym (tuple_taker c.args.expr.now c.in-Tuple.items c.in-Tuple.is)) c.parts_in.ensures
