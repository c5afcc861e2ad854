-- What the grammar of expressions answers for a text, as a function: by the law of this crate it is the one answer that `IsAnswer` allows.
use Rattle.std.specs.Prelude.{ℕ, List}
use Rattle.mark_expr.specs.Answer.{ParseResult, Reads, Wrong, TooDeep, most_nested}
use Rattle.mark_expr.specs.Expression.{ExpressionTree}
use Rattle.mark_expr.specs.Grammar.{or_at}
use Rattle.mark_expr.specs.Text.{column_of, tokens_of}
use Rattle.mark_expr.specs.declared.token.Token.{Token}
use Rattle.parsing.specs.Answer.{finish}
use Rattle.parsing.specs.Reading.{Read, Found, Bad, Deep}

-- what is answered for the characters cs, by what the reader of the grammar gives for their tokens
abbrev pub read_answer : List ℕ → Read Token ExpressionTree → ParseResult
read_answer cs (Found tree rest) = Reads tree
read_answer cs (Bad rest) = Wrong (column_of cs rest)
read_answer cs (Deep rest) = TooDeep

-- THE ANSWER for the text with the characters cs
unfoldable pub expression_answer : List ℕ → ParseResult
expression_answer cs = read_answer cs (finish (or_at most_nested (tokens_of cs)))
