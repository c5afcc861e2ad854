-- The operators by number.
use Rattle.std.proofs.Common.{◌≡◌, ℕ, ◌+◌, ◌<◌, Bool, true, false, ◌==◌, ◌||◌, [], ◌∷◌, refl, arith}
use Rattle.std.proofs.lemmas.Bool.Decides.{nat_tests}
use Rattle.py_tokens.specs.declared.op.Op.{Op}
use Rattle.py_tokens.specs.declared.op.Op.TheVariants as op
use Rattle.py_tokens.specs.contracts.op.Op.{the_type}
use denote.Enum.Declared.{tag_of}
use denote.Enum.Bare.{sameb}
use Rattle.parsing.specs.Reading.{has}
use Rattle.py_expressions.specs.token_kinds.Kinds.{op_number}

pub number_is : (o : Op) → op_number o ≡ 7 + tag_of the_type o
number_is op.DoubleStarEqual = refl
number_is op.DoubleSlashEqual = refl
number_is op.RightShiftEqual = refl
number_is op.LeftShiftEqual = refl
number_is op.Ellipsis = refl
number_is op.DoubleStar = refl
number_is op.DoubleSlash = refl
number_is op.RightShift = refl
number_is op.LeftShift = refl
number_is op.GreaterEqual = refl
number_is op.LessEqual = refl
number_is op.EqualEqual = refl
number_is op.NotEqual = refl
number_is op.Arrow = refl
number_is op.PlusEqual = refl
number_is op.MinusEqual = refl
number_is op.StarEqual = refl
number_is op.SlashEqual = refl
number_is op.PercentEqual = refl
number_is op.AmpersandEqual = refl
number_is op.BarEqual = refl
number_is op.CaretEqual = refl
number_is op.ColonEqual = refl
number_is op.AtEqual = refl
number_is op.Plus = refl
number_is op.Minus = refl
number_is op.Star = refl
number_is op.Slash = refl
number_is op.Percent = refl
number_is op.Ampersand = refl
number_is op.Bar = refl
number_is op.Caret = refl
number_is op.Tilde = refl
number_is op.Less = refl
number_is op.Greater = refl
number_is op.LeftParen = refl
number_is op.RightParen = refl
number_is op.LeftBracket = refl
number_is op.RightBracket = refl
number_is op.LeftBrace = refl
number_is op.RightBrace = refl
number_is op.Comma = refl
number_is op.Colon = refl
number_is op.Dot = refl
number_is op.Semicolon = refl
number_is op.Equal = refl
number_is op.At = refl
number_is op.False = refl
number_is op.None = refl
number_is op.True = refl
number_is op.And = refl
number_is op.As = refl
number_is op.Assert = refl
number_is op.Async = refl
number_is op.Await = refl
number_is op.Break = refl
number_is op.Class = refl
number_is op.Continue = refl
number_is op.Def = refl
number_is op.Del = refl
number_is op.Elif = refl
number_is op.Else = refl
number_is op.Except = refl
number_is op.Finally = refl
number_is op.For = refl
number_is op.From = refl
number_is op.Global = refl
number_is op.If = refl
number_is op.Import = refl
number_is op.In = refl
number_is op.Is = refl
number_is op.Lambda = refl
number_is op.Nonlocal = refl
number_is op.Not = refl
number_is op.Or = refl
number_is op.Pass = refl
number_is op.Raise = refl
number_is op.Return = refl
number_is op.Try = refl
number_is op.While = refl
number_is op.With = refl
number_is op.Yield = refl

same_sum : (m n : ℕ) → (7 + m == 7 + n) ≡ (m == n)
same_sum m n = grind (arith, nat_tests)

or_false : (b : Bool) → b ≡ (b || false)
or_false true = refl
or_false false = refl

pub same_op : (a b : Op) → sameb the_type a b ≡ has (op_number a) (op_number b ∷ [])
same_op a b = rw (number_is a, number_is b, same_sum (tag_of the_type a) (tag_of the_type b)) (or_false _)

-- an operator's number is none of the other kinds'
pub no_op : (o : Op) (n : ℕ) → n < 7 → has n (op_number o ∷ []) ≡ false
no_op o n h = rw (number_is o) (lower n (tag_of the_type o) h)
  where
    lower : (n m : ℕ) → n < 7 → ((n == 7 + m) || false) ≡ false
    lower n m h = grind (arith, nat_tests)

pub no_sign : (o : Op) (n : ℕ) → n < 7 → has (op_number o) (n ∷ []) ≡ false
no_sign o n h = rw (number_is o) (above n (tag_of the_type o) h)
  where
    above : (n m : ℕ) → n < 7 → ((7 + m == n) || false) ≡ false
    above n m h = grind (arith, nat_tests)
