-- The kinds of tokens by number (the numbers themselves stand in Numbers): sets of kinds are lists of numbers.
use Rattle.std.specs.Prelude.{ℕ, pos, ◌==◌, Bool, cond, List, [], ◌∷◌}
use Rattle.py_tokens.specs.declared.op.Op.{Op}
use Rattle.py_tokens.specs.declared.op.Op.TheVariants as op
use Rattle.py_tokens.specs.declared.token.Token.{Token}
use Rattle.py_tokens.specs.declared.token.TokenKind.{TokenKind}
use Rattle.py_tokens.specs.declared.token.TokenKind.TheVariants as kinds
use Rattle.parsing.specs.Reading.{Read, One, one_at, has}
use Rattle.token_kinds.specs.Numbers as k

abbrev pub op_number : Op → ℕ
op_number op.DoubleStarEqual = k.double_star_equal
op_number op.DoubleSlashEqual = k.double_slash_equal
op_number op.RightShiftEqual = k.right_shift_equal
op_number op.LeftShiftEqual = k.left_shift_equal
op_number op.Ellipsis = k.ellipsis
op_number op.DoubleStar = k.double_star
op_number op.DoubleSlash = k.double_slash
op_number op.RightShift = k.right_shift
op_number op.LeftShift = k.left_shift
op_number op.GreaterEqual = k.greater_equal
op_number op.LessEqual = k.less_equal
op_number op.EqualEqual = k.equal_equal
op_number op.NotEqual = k.not_equal
op_number op.Arrow = k.arrow
op_number op.PlusEqual = k.plus_equal
op_number op.MinusEqual = k.minus_equal
op_number op.StarEqual = k.star_equal
op_number op.SlashEqual = k.slash_equal
op_number op.PercentEqual = k.percent_equal
op_number op.AmpersandEqual = k.ampersand_equal
op_number op.BarEqual = k.bar_equal
op_number op.CaretEqual = k.caret_equal
op_number op.ColonEqual = k.colon_equal
op_number op.AtEqual = k.at_equal
op_number op.Plus = k.plus
op_number op.Minus = k.minus
op_number op.Star = k.star
op_number op.Slash = k.slash
op_number op.Percent = k.percent
op_number op.Ampersand = k.ampersand
op_number op.Bar = k.bar
op_number op.Caret = k.caret
op_number op.Tilde = k.tilde
op_number op.Less = k.less_than
op_number op.Greater = k.greater
op_number op.LeftParen = k.left_paren
op_number op.RightParen = k.right_paren
op_number op.LeftBracket = k.left_bracket
op_number op.RightBracket = k.right_bracket
op_number op.LeftBrace = k.left_brace
op_number op.RightBrace = k.right_brace
op_number op.Comma = k.comma
op_number op.Colon = k.colon
op_number op.Dot = k.dot
op_number op.Semicolon = k.semicolon
op_number op.Equal = k.equal
op_number op.At = k.at
op_number op.False = k.false
op_number op.None = k.none
op_number op.True = k.true
op_number op.And = k.and
op_number op.As = k.as_word
op_number op.Assert = k.assert
op_number op.Async = k.async
op_number op.Await = k.await
op_number op.Break = k.break
op_number op.Class = k.class
op_number op.Continue = k.continue
op_number op.Def = k.def
op_number op.Del = k.del
op_number op.Elif = k.elif
op_number op.Else = k.else
op_number op.Except = k.except
op_number op.Finally = k.finally
op_number op.For = k.for
op_number op.From = k.from
op_number op.Global = k.global
op_number op.If = k.if
op_number op.Import = k.import
op_number op.In = k.in_word
op_number op.Is = k.is
op_number op.Lambda = k.lambda
op_number op.Nonlocal = k.nonlocal
op_number op.Not = k.not
op_number op.Or = k.or
op_number op.Pass = k.pass
op_number op.Raise = k.raise
op_number op.Return = k.return
op_number op.Try = k.try
op_number op.While = k.while
op_number op.With = k.with
op_number op.Yield = k.yield

abbrev pub number_of : TokenKind → ℕ
number_of (kinds.Name name) = k.name
number_of (kinds.Number n) = k.number
number_of (kinds.Text text) = k.text
number_of kinds.Newline = k.newline
number_of kinds.Indent = k.indent
number_of kinds.Dedent = k.dedent
number_of kinds.End = k.end
number_of (kinds.Op o) = op_number o

abbrev pub kind : Token → ℕ
kind t = number_of t.kind

abbrev pub is_of_kind : ℕ → Token → Bool
is_of_kind k t = has (kind t) (k ∷ [])

-- the token of this kind
abbrev pub Tok : ℕ → List Token → Token → Type 0
Tok k = One (λ t. has (kind t) (k ∷ [])) (λ t. t)

abbrev pub tok : ℕ → List Token → Read Token Token
tok k = one_at (λ t. has (kind t) (k ∷ [])) (λ t. t)

-- what a name or a text token holds; no other holds characters
abbrev pub text_in : TokenKind → List ℕ
text_in (kinds.Name name) = name
text_in (kinds.Text text) = text
text_in (kinds.Number n) = []
text_in kinds.Newline = []
text_in kinds.Indent = []
text_in kinds.Dedent = []
text_in kinds.End = []
text_in (kinds.Op o) = []

abbrev pub text_of : Token → List ℕ
text_of t = text_in t.kind

-- A TOKEN OF EACH KIND
abbrev pub all_kinds : List TokenKind
all_kinds = kinds.Name [] ∷ kinds.Number (pos 0) ∷ kinds.Text [] ∷ kinds.Newline ∷ kinds.Indent ∷ kinds.Dedent ∷ kinds.End
    ∷ kinds.Op op.DoubleStarEqual ∷ kinds.Op op.DoubleSlashEqual ∷ kinds.Op op.RightShiftEqual ∷ kinds.Op op.LeftShiftEqual ∷ kinds.Op op.Ellipsis ∷ kinds.Op op.DoubleStar ∷ kinds.Op op.DoubleSlash ∷ kinds.Op op.RightShift
    ∷ kinds.Op op.LeftShift ∷ kinds.Op op.GreaterEqual ∷ kinds.Op op.LessEqual ∷ kinds.Op op.EqualEqual ∷ kinds.Op op.NotEqual ∷ kinds.Op op.Arrow ∷ kinds.Op op.PlusEqual ∷ kinds.Op op.MinusEqual
    ∷ kinds.Op op.StarEqual ∷ kinds.Op op.SlashEqual ∷ kinds.Op op.PercentEqual ∷ kinds.Op op.AmpersandEqual ∷ kinds.Op op.BarEqual ∷ kinds.Op op.CaretEqual ∷ kinds.Op op.ColonEqual ∷ kinds.Op op.AtEqual
    ∷ kinds.Op op.Plus ∷ kinds.Op op.Minus ∷ kinds.Op op.Star ∷ kinds.Op op.Slash ∷ kinds.Op op.Percent ∷ kinds.Op op.Ampersand ∷ kinds.Op op.Bar ∷ kinds.Op op.Caret
    ∷ kinds.Op op.Tilde ∷ kinds.Op op.Less ∷ kinds.Op op.Greater ∷ kinds.Op op.LeftParen ∷ kinds.Op op.RightParen ∷ kinds.Op op.LeftBracket ∷ kinds.Op op.RightBracket ∷ kinds.Op op.LeftBrace
    ∷ kinds.Op op.RightBrace ∷ kinds.Op op.Comma ∷ kinds.Op op.Colon ∷ kinds.Op op.Dot ∷ kinds.Op op.Semicolon ∷ kinds.Op op.Equal ∷ kinds.Op op.At ∷ kinds.Op op.False
    ∷ kinds.Op op.None ∷ kinds.Op op.True ∷ kinds.Op op.And ∷ kinds.Op op.As ∷ kinds.Op op.Assert ∷ kinds.Op op.Async ∷ kinds.Op op.Await ∷ kinds.Op op.Break
    ∷ kinds.Op op.Class ∷ kinds.Op op.Continue ∷ kinds.Op op.Def ∷ kinds.Op op.Del ∷ kinds.Op op.Elif ∷ kinds.Op op.Else ∷ kinds.Op op.Except ∷ kinds.Op op.Finally
    ∷ kinds.Op op.For ∷ kinds.Op op.From ∷ kinds.Op op.Global ∷ kinds.Op op.If ∷ kinds.Op op.Import ∷ kinds.Op op.In ∷ kinds.Op op.Is ∷ kinds.Op op.Lambda
    ∷ kinds.Op op.Nonlocal ∷ kinds.Op op.Not ∷ kinds.Op op.Or ∷ kinds.Op op.Pass ∷ kinds.Op op.Raise ∷ kinds.Op op.Return ∷ kinds.Op op.Try ∷ kinds.Op op.While
    ∷ kinds.Op op.With ∷ kinds.Op op.Yield ∷ []

abbrev pub kind_numbered : List TokenKind → ℕ → TokenKind
kind_numbered [] n = kinds.End
kind_numbered (x ∷ xs) n = cond (number_of x == n) x (kind_numbered xs n)

-- (of no kind but these is one asked for)
abbrev pub sample : ℕ → Token
sample n = record { kind = kind_numbered all_kinds n; at = record { line = 1; column = 1 }; start = 0; end = 0 }
