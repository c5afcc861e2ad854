use Rattle.std.proofs.Common.{◌∙◌, sym, ap}
use Rattle.std.proofs.lemmas.Result.{err_from_is_err_and}
use Rattle.py_tokens.specs.Layout.{brackets_with}
use Rattle.py_tokens.specs.Reading.{spot}
use Rattle.py_tokens.proofs.Steps.{token_step, lexeme_part, bracket_part}
use Rattle.py_tokens.proofs.statement.spelled_step.Goals as goal

pub returns-in_err-lexeme : goal.returns-in_err-lexeme
returns-in_err-lexeme c =
    let p = err_from_is_err_and c.from_residual.result c.from_residual.ensures.1 in
    rw (p.1, p.2) (lexeme_part c.args.tokens.now.items c.args.brackets.now.items c.args.cursor.now.place c.args.cursor.now.rest.now (spot c.args.tokens.now.items c.args.brackets.now.items c.args.cursor.now.place c.args.cursor.now.rest.now) c.in_err-lexeme.field-0.0 c.requires.some c.requires.no_end c.requires.no_gap c.in_err-lexeme.ensures.value)

pub returns-in_err-take_bracket : goal.returns-in_err-take_bracket
returns-in_err-take_bracket c =
    let p = err_from_is_err_and c.from_residual-in_err-take_bracket.result c.from_residual-in_err-take_bracket.ensures.1 in
    rw (p.1, p.2) (bracket_part c.args.tokens.now.items c.args.brackets.now.items c.take_bracket.new.brackets.items c.args.cursor.now.place c.in_ok-lexeme.lexeme c.token_role.result c.args.cursor.now.rest.now (spot c.args.tokens.now.items c.take_bracket.new.brackets.items c.args.cursor.now.place c.args.cursor.now.rest.now) c.in_err-take_bracket.field-0.0 c.requires.some c.requires.no_end c.requires.no_gap c.in_ok-lexeme.ensures.value c.in_ok-lexeme.ensures.size c.token_role.ensures c.in_err-take_bracket.ensures)

pub returns : goal.returns
returns c =
    rw (c.in_ok-push_token.ensures, c.pass.ensures.place, c.pass.ensures.rest)
    (token_step c.args.tokens.now.items c.args.brackets.now.items c.take_bracket.new.brackets.items c.args.cursor.now.place c.in_ok-lexeme.lexeme c.args.cursor.now.rest.now c.requires.some c.requires.no_end c.requires.no_gap c.in_ok-lexeme.ensures.value c.in_ok-lexeme.ensures.size (ap (brackets_with c.args.brackets.now.items c.args.cursor.now.place.pos) (sym c.token_role.ensures) ∙ c.in_ok-take_bracket.ensures))
