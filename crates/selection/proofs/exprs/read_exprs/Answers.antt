use Rattle.std.proofs.lemmas.Result.{err_from_is_err_and}
use Rattle.selection.proofs.Selecting.{exprs_for, keyword_for, marks_for}
use Rattle.selection.proofs.exprs.read_exprs.Goals as goal

pub returns-in_err-keyword-clause-refused : goal.returns-in_err-keyword-clause-refused
returns-in_err-keyword-clause-refused c =
    let p = err_from_is_err_and c.from_residual.result c.from_residual.ensures.1 in
    rw (p.1, p.2) (keyword_for c.args.options.now c.text.result.now c.in_err-keyword.field-0.0 c.text.ensures c.in_err-keyword.ensures)

pub returns-in_err-marks-clause-refused : goal.returns-in_err-marks-clause-refused
returns-in_err-marks-clause-refused c =
    let p = err_from_is_err_and c.from_residual-in_err-marks.result c.from_residual-in_err-marks.ensures.1 in
    rw (p.1, p.2) (marks_for c.args.options.now c.text.result.now c.text-2.result.now c.in_ok-keyword.keyword c.in_err-marks.field-0.0 c.text.ensures c.text-2.ensures c.in_ok-keyword.ensures c.in_err-marks.ensures)

pub returns-clause-exprs : goal.returns-clause-exprs
returns-clause-exprs c =
    exprs_for c.args.options.now c.text.result.now c.text-2.result.now c.in_ok-keyword.keyword c.in_ok-marks.marks c.text.ensures c.text-2.ensures c.in_ok-keyword.ensures c.in_ok-marks.ensures
