use Rattle.std.proofs.Common.{◌∙◌, sym, arith, length}
use Rattle.std.proofs.lemmas.Result.{err_from_is_err_and}
use Rattle.py_tokens.specs.Reading.{spot}
use Rattle.py_tokens.proofs.Steps.{gap_step, text_end_step, end_part, empty_length}
use Rattle.py_tokens.proofs.statement.statement_step.Goals as goal

pub returns-then-gap-gt0 : goal.returns-then-gap-gt0
returns-then-gap-gt0 c =
    rw (c.pass.ensures.place, c.pass.ensures.rest)
    (gap_step c.args.tokens.now.items c.args.brackets.now.items c.args.cursor.now.place c.gap_len-gap.result c.args.cursor.now.rest.now c.if-gap-gt0.true c.gap_len-gap.ensures.value (omega (arith, c.gap_len-gap.ensures.within)))

pub returns-in_err-end_text : goal.returns-in_err-end_text
returns-in_err-end_text c =
    let p = err_from_is_err_and c.from_residual.result c.from_residual.ensures.1 in
    rw (p.1, p.2) (end_part c.args.tokens.now.items c.end_text.new.tokens.items c.args.brackets.now.items c.deref-then-is_empty.result.now c.args.cursor.now.place c.args.cursor.now.rest.now (spot c.end_text.new.tokens.items c.args.brackets.now.items c.args.cursor.now.place c.args.cursor.now.rest.now) c.in_err-end_text.field-0.0 (empty_length (length c.args.cursor.now.rest.now) (sym c.is_empty.ensures ∙ c.if-is_empty.true)) c.deref-then-is_empty.ensures.value c.in_err-end_text.ensures)

pub returns-then-is_empty : goal.returns-then-is_empty
returns-then-is_empty c =
    text_end_step c.args.tokens.now.items c.end_text.new.tokens.items c.args.brackets.now.items c.args.cursor.now.place c.args.cursor.now.rest.now (empty_length (length c.args.cursor.now.rest.now) (sym c.is_empty.ensures ∙ c.if-is_empty.true)) (rw c.deref-then-is_empty.ensures.value at c.in_ok-end_text.ensures)
