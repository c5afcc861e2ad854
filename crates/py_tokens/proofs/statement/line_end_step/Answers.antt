use Rattle.std.proofs.Common.{◌∙◌, sym}
use Rattle.py_tokens.proofs.Steps.{joined_step, ended_step}
use Rattle.py_tokens.proofs.statement.line_end_step.Goals as goal

pub returns-then-not-is_empty : goal.returns-then-not-is_empty
returns-then-not-is_empty c =
    rw (c.pass.ensures.place, c.pass.ensures.rest)
    (joined_step c.args.tokens.now.items c.args.brackets.now c.args.cursor.now.place c.args.line_end c.args.cursor.now.rest.now c.requires.some c.requires.found c.requires.text (sym c.is_empty.ensures ∙ c.if-not-is_empty.true))

pub returns : goal.returns
returns c =
    rw (c.in_ok-push_token.ensures, c.pass.ensures.place, c.pass.ensures.rest)
    (ended_step c.args.tokens.now.items c.args.brackets.now c.args.cursor.now.place c.args.line_end c.args.cursor.now.rest.now c.requires.some c.requires.found (sym c.is_empty.ensures ∙ c.if-not-is_empty.false))
