-- What is answered for a text.
use Rattle.std.specs.Prelude.{◌≡◌, ℕ, List, Result, Ok, Err}
use Rattle.parsing.specs.Answer.{Ever, FirstFault, FirstDeep}
use Rattle.mark_expr.specs.declared.token.Token.{Token}
use Rattle.mark_expr.specs.declared.tree.MarkExpr.{MarkExpr}
use Rattle.mark_expr.specs.declared.fault.ExprFault.{ExprFault}
use Rattle.mark_expr.specs.declared.fault.ExprFault.TheVariants as faults
use Rattle.mark_expr.specs.Expression.{ExpressionTree, view, NestedWithin}
use Rattle.mark_expr.specs.Text.{tokens_of, column_of}

-- so many parentheses and `not`s may be open at once
abbrev pub most_nested : ℕ
most_nested = 100

-- The text with the characters cs is this expression, with at most `most_nested` parentheses and `not`s open at once.
abbrev pub IsExpression : List ℕ → ExpressionTree → Type 0
IsExpression cs t = NestedWithin most_nested (tokens_of cs) t

-- The first token at which no reading goes on, however deep, stands at this column; the end is a token.
pub record IsWrongAt (cs : List ℕ) (column : ℕ) : Type 0 where
  pub rest : List Token
  pub fault : FirstFault (NestedWithin most_nested) (Ever NestedWithin) (tokens_of cs) rest
  pub column_is : column ≡ column_of cs rest

-- Before any such token there is one with which a parenthesis or `not` more than `most_nested` is open.
pub record IsTooDeep (cs : List ℕ) : Type 0 where
  pub rest : List Token
  pub deep : FirstDeep (NestedWithin most_nested) (Ever NestedWithin) (tokens_of cs) rest

pub data ParseResult : Type 0 where
  Reads : ExpressionTree → ParseResult
  Wrong : ℕ → ParseResult
  TooDeep : ParseResult

abbrev pub IsParseResult : List ℕ → ParseResult → Type 0
IsParseResult cs (Reads t) = IsExpression cs t
IsParseResult cs (Wrong column) = IsWrongAt cs column
IsParseResult cs TooDeep = IsTooDeep cs

-- why the text is refused; want of memory has no cause in it
abbrev pub IsCause : List ℕ → ExprFault → Type 0
IsCause cs (faults.Bad column) = IsWrongAt cs column
IsCause cs faults.Nesting = IsTooDeep cs
IsCause cs faults.OutOfMemory = Unit {0}

-- the answer was given, unless memory ran out
abbrev pub Gave : Result MarkExpr ExprFault → ParseResult → Type 0
Gave (Ok e) (Reads t) = view e ≡ t
Gave (Ok e) _ = ⊥
Gave (Err (faults.Bad c)) (Wrong column) = c ≡ column
Gave (Err (faults.Bad c)) _ = ⊥
Gave (Err faults.Nesting) TooDeep = Unit {0}
Gave (Err faults.Nesting) _ = ⊥
Gave (Err faults.OutOfMemory) _ = Unit {0}
