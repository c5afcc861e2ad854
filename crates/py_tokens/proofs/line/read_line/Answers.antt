use Rattle.std.proofs.Common.{◌∙◌, sym, length}
use Rattle.py_tokens.specs.Reading.{lexer_state}
use Rattle.py_tokens.proofs.Lines.{column_is}
use Rattle.py_tokens.proofs.Texts.{reads_last, reads_blank, tab_fault, line_answer, no_more}
use Rattle.py_tokens.proofs.Steps.{empty_length, some_length}
use Rattle.py_tokens.proofs.line.read_line.Goals as goal

pub returns-then-is_empty : goal.returns-then-is_empty
returns-then-is_empty c =
    reads_last c.args.tokens.now.items c.args.columns.now.items c.args.cursor.now.place c.pass_gaps.new.cursor.place c.args.cursor.now.rest.now c.pass_gaps.new.cursor.rest.now c.pass_gaps.ensures.passed (empty_length (length c.pass_gaps.new.cursor.rest.now) (sym c.is_empty.ensures ∙ c.if-is_empty.true)) c.requires

pub returns-then-line_end-gt0 : goal.returns-then-line_end-gt0
returns-then-line_end-gt0 c =
    rw (c.pass.ensures.place, c.pass.ensures.rest)
    (reads_blank c.args.tokens.now.items c.args.columns.now.items c.args.cursor.now.place c.pass_gaps.new.cursor.place c.line_end_len-line_end.result c.args.cursor.now.rest.now c.pass_gaps.new.cursor.rest.now c.pass_gaps.ensures.passed c.if-line_end-gt0.true c.line_end_len-line_end.ensures.value (some_length (length c.pass_gaps.new.cursor.rest.now) (sym c.is_empty.ensures ∙ c.if-is_empty.false)))

pub returns-in-Some : goal.returns-in-Some
returns-in-Some c =
    tab_fault c.args.tokens.now.items c.args.columns.now.items c.args.cursor.now.place c.pass_gaps.new.cursor.place 0 c.in-Some.tab c.args.cursor.now.rest.now c.pass_gaps.new.cursor.rest.now c.pass_gaps.ensures.passed (sym c.first_tab-tab.ensures ∙ c.in-Some.is) (some_length (length c.pass_gaps.new.cursor.rest.now) (sym c.is_empty.ensures ∙ c.if-is_empty.false)) (no_more c.line_end_len-line_end.result _ c.line_end_len-line_end.ensures.value c.if-line_end-gt0.false) c.pass_gaps.ensures.all

pub returns : goal.returns
returns c =
    line_answer c.args.tokens.now.items c.args.columns.now.items c.args.cursor.now.place c.pass_gaps.new.cursor.place c.column_of-column.result c.args.cursor.now.rest.now c.pass_gaps.new.cursor.rest.now
    (lexer_state c.read_tokens.new.tokens.items c.read_tokens.new.columns.items c.read_tokens.new.cursor.place c.read_tokens.new.cursor.rest.now) c.read_tokens.result
    c.pass_gaps.ensures.passed (column_is c.args.cursor.now.place c.args.cursor.now.rest.now ∙ sym c.column_of-column.ensures) (sym c.first_tab-tab.ensures ∙ c.in_default.is)
    (some_length (length c.pass_gaps.new.cursor.rest.now) (sym c.is_empty.ensures ∙ c.if-is_empty.false)) (no_more c.line_end_len-line_end.result _ c.line_end_len-line_end.ensures.value c.if-line_end-gt0.false) c.pass_gaps.ensures.all c.read_tokens.ensures
