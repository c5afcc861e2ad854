-- Sets of tokens, tables of operators, and where reading stops.
use Rattle.std.specs.Prelude.{◌≡◌, ℕ, Bool, true, false, List, [], ◌∷◌}
use Rattle.py_tokens.specs.declared.op.Op.{Op}
use Rattle.py_tokens.specs.declared.token.Token.{Token}
use Rattle.parsing.specs.Reading.{Read, Bad, Deep}
use Rattle.py_expressions.specs.token_kinds.Kinds.{op_number}
use Rattle.py_expressions.specs.token_kinds.Numbers as k
use Rattle.py_cursor.specs.declared.cursor.Sign.{Sign}
use Rattle.py_cursor.specs.declared.cursor.Sign.TheVariants as sign
use Rattle.py_cursor.specs.declared.stop.Stop.{Stop}
use Rattle.py_cursor.specs.declared.stop.Stop.TheVariants as stops

-- the number of a kind
abbrev pub number_on : Sign → ℕ
number_on sign.Name = k.name
number_on sign.Number = k.number
number_on sign.Text = k.text
number_on sign.Newline = k.newline
number_on sign.Indent = k.indent
number_on sign.Dedent = k.dedent
number_on sign.End = k.end
number_on (sign.Op o) = op_number o

abbrev pub kinds_of : List Sign → List ℕ
kinds_of [] = []
kinds_of (s ∷ set) = number_on s ∷ kinds_of set

-- a table of operators, by their numbers
abbrev pub rows_of : {V : Type 0} → List (Op × V) → List (ℕ × V)
rows_of [] = []
rows_of (r ∷ rows) = (op_number r.0, r.1) ∷ rows_of rows

-- Where reading stopped is where the reader stops, unless memory ran out: the tokens from the fault on, whether wrong or too deep.
abbrev pub FailsAs : {A : Type 0} → Stop → Read Token A → Type 0
FailsAs (stops.Bad s) read = read ≡ Bad s.now
FailsAs (stops.Deep s) read = read ≡ Deep s.now
FailsAs stops.Memory read = Unit {0}

-- the fault where no level is left: the first token is too deep, where it begins what is read; else it is wrong
abbrev pub IsBlocked : Bool → List Token → Stop → Type 0
IsBlocked true ts (stops.Deep s) = s.now ≡ ts
IsBlocked false ts (stops.Bad s) = s.now ≡ ts
IsBlocked true ts (stops.Bad s) = ⊥
IsBlocked false ts (stops.Deep s) = ⊥
IsBlocked b ts stops.Memory = ⊥
