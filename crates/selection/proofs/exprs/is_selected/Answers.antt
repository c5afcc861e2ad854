use Rattle.selection.proofs.Selecting.{by_both, by_none}
use Rattle.selection.proofs.exprs.is_selected.Goals as goal

pub returns-then-by_name : goal.returns-then-by_name
returns-then-by_name c = λ o are.
    by_both o c.args.exprs.now c.args.keyword_names.now c.args.mark_names.now c.accepts-by_name.result c.accepts-by_mark.result c.accepts-by_name.ensures c.accepts-by_mark.ensures c.if-by_name.true are

pub returns-else-by_name : goal.returns-else-by_name
returns-else-by_name c = λ o are.
    by_none o c.args.exprs.now c.args.keyword_names.now c.args.mark_names.now c.accepts-by_name.result c.accepts-by_mark.result c.accepts-by_name.ensures c.accepts-by_mark.ensures c.if-by_name.false are
