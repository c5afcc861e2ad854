-- What the reader gives for some statements, by computing.
use Rattle.std.proofs.Common.{◌≡◌, ℕ, List, [], ◌∷◌, refl}
use Rattle.py_expressions.specs.py_tokens.declared.op.Op.{Op}
use Rattle.py_expressions.specs.py_tokens.declared.op.Op.TheVariants as op
use Rattle.py_expressions.specs.py_tokens.declared.token.Token.{Token}
use Rattle.py_expressions.specs.py_tokens.declared.token.TokenKind.{TokenKind}
use Rattle.py_expressions.specs.py_tokens.declared.token.TokenKind.TheVariants as kinds
use Rattle.py_source.specs.declared.pos.Pos.{Pos}
use Rattle.py_tree.specs.declared.op.BinOp.TheVariants as binary
use Rattle.py_tree.specs.declared.op.CmpOp.TheVariants as compare
use Rattle.py_tree.specs.Trees.{Tree, Name, Tuple, Binary, Compare, Not, Empty, More, Call, Paren, Present}
use Rattle.py_tree.specs.Statements.{Place, Block, NoStatement, Next, Do, Assign, AttributePlace, SubscriptPlace, NamePlace, Unpack, For, Pass, Return, ReturnYield}
use Rattle.parsing.specs.Reading.{Read, Found, Bad, Deep, loop_at}
use Rattle.grammar.specs.Levels.{readers, steps}
use Rattle.parsing.specs.Answer.{finish}
use Rattle.py_expressions.specs.Sorts.{single, targets}
use Rattle.py_expressions.specs.Lines.{expressions, no_reader}
use Rattle.py_grammar.specs.Sources.{source_read}

abbrev at : ℕ → Pos
at n = record { line = 1; column = n }

abbrev token : ℕ → TokenKind → Token
token n x = record { kind = x; at = at n; start = 0; end = 0 }

abbrev name : ℕ → Token
name n = token n (kinds.Name (97 ∷ []))

abbrev o : ℕ → Op → Token
o n x = token n (kinds.Op x)

abbrev a : ℕ → Tree
a n = Name (at n) (97 ∷ [])

abbrev read : ℕ → List Token → Read Token (Block × ℕ)
read n ts = source_read n ts

-- a + a * a
sum_of_product : read 4 (name 1 ∷ o 2 op.Plus ∷ name 3 ∷ o 4 op.Star ∷ name 5 ∷ o 90 op.Semicolon ∷ token 91 kinds.Newline ∷ token 92 kinds.End ∷ []) ≡ Found (Next NoStatement (Do (at 1) (Binary (at 1) (a 1) binary.Add (Binary (at 3) (a 3) binary.Mul (a 5)))), 1) []
unfolding loop_at readers steps
sum_of_product = refl

-- not a is not a
chained : read 4 (o 1 op.Not ∷ name 2 ∷ o 3 op.Is ∷ o 4 op.Not ∷ name 5 ∷ o 90 op.Semicolon ∷ token 91 kinds.Newline ∷ token 92 kinds.End ∷ []) ≡ Found (Next NoStatement (Do (at 1) (Not (at 1) (Compare (at 2) (a 2) (compare.IsNot ∷ []) (More Empty (a 5))))), 1) []
unfolding loop_at readers steps
chained = refl

-- a.a, a[a] = a
unpacked : read 4 (name 1 ∷ o 2 op.Dot ∷ name 3 ∷ o 4 op.Comma ∷ name 5 ∷ o 6 op.LeftBracket ∷ name 7 ∷ o 8 op.RightBracket ∷ o 9 op.Equal ∷ name 10 ∷ o 90 op.Semicolon ∷ token 91 kinds.Newline ∷ token 92 kinds.End ∷ [])
    ≡ Found (Next NoStatement (Assign (at 1) (Unpack (AttributePlace (at 1) (a 1) (97 ∷ []) ∷ SubscriptPlace (at 5) (a 5) (a 7) ∷ []) ∷ []) (a 10)), 1) []
unfolding loop_at readers steps
unpacked = refl

-- a() = a is wrong at the =
no_target : read 4 (name 1 ∷ o 2 op.LeftParen ∷ o 3 op.RightParen ∷ o 4 op.Equal ∷ name 5 ∷ o 90 op.Semicolon ∷ token 91 kinds.Newline ∷ token 92 kinds.End ∷ []) ≡ Bad (o 4 op.Equal ∷ name 5 ∷ o 90 op.Semicolon ∷ token 91 kinds.Newline ∷ token 92 kinds.End ∷ [])
unfolding loop_at readers steps
no_target = refl

-- ((a)) with two levels is too deep at the second (, (()) with two is not
deep : read 1 (o 1 op.LeftParen ∷ name 2 ∷ o 3 op.RightParen ∷ o 90 op.Semicolon ∷ token 91 kinds.Newline ∷ token 92 kinds.End ∷ []) ≡ Deep (name 2 ∷ o 3 op.RightParen ∷ o 90 op.Semicolon ∷ token 91 kinds.Newline ∷ token 92 kinds.End ∷ [])
unfolding loop_at readers steps
deep = refl

empty : read 1 (o 1 op.LeftParen ∷ o 2 op.RightParen ∷ o 90 op.Semicolon ∷ token 91 kinds.Newline ∷ token 92 kinds.End ∷ []) ≡ Found (Next NoStatement (Do (at 1) (Tuple (at 1) Empty)), 1) []
unfolding loop_at readers steps
empty = refl

-- WHERE ONLY A TARGET MAY STAND, with n levels left
abbrev aim : ℕ → List Token → Read Token (Place × ℕ)
aim n ts = finish (readers expressions no_reader n single ts)

-- a().a takes three levels
carried : aim 3 (name 1 ∷ o 2 op.LeftParen ∷ o 3 op.RightParen ∷ o 4 op.Dot ∷ name 5 ∷ []) ≡ Found (AttributePlace (at 1) (Call (at 1) (a 1) Empty []) (97 ∷ []), 3) []
unfolding loop_at readers steps
carried = refl

-- so with two it is too deep at the (, since no target of two levels begins so
carried_deep : aim 2 (name 1 ∷ o 2 op.LeftParen ∷ o 3 op.RightParen ∷ o 4 op.Dot ∷ name 5 ∷ []) ≡ Deep (o 2 op.LeftParen ∷ o 3 op.RightParen ∷ o 4 op.Dot ∷ name 5 ∷ [])
unfolding loop_at readers steps
carried_deep = refl

-- a[a] takes two
subscript_low : aim 2 (name 1 ∷ o 2 op.LeftBracket ∷ name 3 ∷ o 4 op.RightBracket ∷ []) ≡ Found (SubscriptPlace (at 1) (a 1) (a 3), 2) []
unfolding loop_at readers steps
subscript_low = refl

-- and a[a:a] with two is too deep at the :
slice_deep : aim 2 (name 1 ∷ o 2 op.LeftBracket ∷ name 3 ∷ o 4 op.Colon ∷ name 5 ∷ o 6 op.RightBracket ∷ []) ≡ Deep (o 4 op.Colon ∷ name 5 ∷ o 6 op.RightBracket ∷ [])
unfolding loop_at readers steps
slice_deep = refl

-- with three it is wrong at its end, since a[a:a].a could follow
slice_end : aim 3 (name 1 ∷ o 2 op.LeftBracket ∷ name 3 ∷ o 4 op.Colon ∷ name 5 ∷ o 6 op.RightBracket ∷ []) ≡ Bad []
unfolding loop_at readers steps
slice_end = refl

-- (a) with one level is too deep at the (
group_deep : aim 1 (o 1 op.LeftParen ∷ name 2 ∷ o 3 op.RightParen ∷ o 4 op.Dot ∷ name 5 ∷ []) ≡ Deep (o 1 op.LeftParen ∷ name 2 ∷ o 3 op.RightParen ∷ o 4 op.Dot ∷ name 5 ∷ [])
unfolding loop_at readers steps
group_deep = refl

-- del a() is wrong at the line's end
no_del : read 4 (o 1 op.Del ∷ name 2 ∷ o 3 op.LeftParen ∷ o 4 op.RightParen ∷ token 91 kinds.Newline ∷ token 92 kinds.End ∷ []) ≡ Bad (token 91 kinds.Newline ∷ token 92 kinds.End ∷ [])
unfolding loop_at readers steps
no_del = refl

-- for a, a.a in a: pass
run : read 4 (o 1 op.For ∷ name 2 ∷ o 3 op.Comma ∷ name 4 ∷ o 5 op.Dot ∷ name 6 ∷ o 7 op.In ∷ name 8 ∷ o 9 op.Colon ∷ o 10 op.Pass ∷ token 91 kinds.Newline ∷ token 92 kinds.End ∷ [])
    ≡ Found (Next NoStatement (For (at 1) (Unpack (NamePlace (at 2) (97 ∷ []) ∷ AttributePlace (at 4) (a 4) (97 ∷ []) ∷ [])) (a 8) (Next NoStatement (Pass (at 10)))), 2) []
unfolding loop_at readers steps
run = refl

-- return (yield a)
given : read 4 (o 1 op.Return ∷ o 2 op.LeftParen ∷ o 3 op.Yield ∷ name 4 ∷ o 5 op.RightParen ∷ token 91 kinds.Newline ∷ token 92 kinds.End ∷ []) ≡ Found (Next NoStatement (ReturnYield (at 1) (at 3) (Present (a 4))), 1) []
unfolding loop_at readers steps
given = refl

-- return (a) + a
grouped : read 4 (o 1 op.Return ∷ o 2 op.LeftParen ∷ name 3 ∷ o 4 op.RightParen ∷ o 5 op.Plus ∷ name 6 ∷ token 91 kinds.Newline ∷ token 92 kinds.End ∷ []) ≡ Found (Next NoStatement (Return (at 1) (Present (Binary (at 2) (Paren (at 2) (a 3)) binary.Add (a 6)))), 1) []
unfolding loop_at readers steps
grouped = refl

-- return (yield a) + a is wrong at the +
no_sum : read 4 (o 1 op.Return ∷ o 2 op.LeftParen ∷ o 3 op.Yield ∷ name 4 ∷ o 5 op.RightParen ∷ o 6 op.Plus ∷ name 7 ∷ token 91 kinds.Newline ∷ token 92 kinds.End ∷ []) ≡ Bad (o 6 op.Plus ∷ name 7 ∷ token 91 kinds.Newline ∷ token 92 kinds.End ∷ [])
unfolding loop_at readers steps
no_sum = refl

-- a, a[a:a].a with three levels is too deep at the :
several_deep : finish (readers expressions no_reader 3 targets (name 1 ∷ o 2 op.Comma ∷ name 3 ∷ o 4 op.LeftBracket ∷ name 5 ∷ o 6 op.Colon ∷ name 7 ∷ o 8 op.RightBracket ∷ o 9 op.Dot ∷ name 10 ∷ [])) ≡ Deep (o 6 op.Colon ∷ name 7 ∷ o 8 op.RightBracket ∷ o 9 op.Dot ∷ name 10 ∷ [])
unfolding loop_at readers steps
several_deep = refl
