-- What all lines have: each is read as code goes along it, and takes a token.
use Rattle.std.proofs.Common.{◌≡◌, ℕ, ◌-◌, ◌<◌, ◌≤◌, max, nat_le, true, false, List, length, ◌∙◌, None, arith}
use Rattle.std.proofs.lemmas.Bool.Decides.{nat_tests}
use Rattle.py_tokens.specs.declared.token.Token.{Token}
use Rattle.parsing.specs.Reading.{Found, ◌>>=◌}
use Rattle.grammar.specs.Levels.{readers, fits}
use Rattle.grammar.proofs.Along.{reader_takes}
use Rattle.grammar_code.specs.Walk.{ground, walk, whole}
use Rattle.grammar_code.proofs.Walk.{Eats, line_walk}
use Rattle.py_cursor.specs.py_expressions.Sorts.{El, sort, Name}
use Rattle.py_cursor.specs.py_expressions.Lines.{expressions, no_fars, no_reader, body}
use Rattle.py_cursor.proofs.py_expressions_lemmas.Good.{good_expressions}
use Rattle.py_expression_parser.specs.Reads.{reads}

-- A LINE, as code goes along it
pub line : (m : ℕ) (r : Name) (ts : List Token) → 0 < m → reads m r ts ≡ walk expressions (m - 1) no_reader (readers expressions no_reader m) (readers expressions no_reader (m - 1)) true {B = sort r} (body r) (tt, ground) ts whole None
line m r ts h = line_walk expressions good_expressions no_reader m r ts h

-- what a line reads takes a token
pub takes : (m : ℕ) (r : Name) (ts : List Token) (y : El (sort r) × ℕ) (rest : List Token) → reads m r ts ≡ Found y rest → length rest < length ts
takes m r ts y rest e = reader_takes expressions good_expressions no_fars no_fars no_reader (λ q. absurd q) m r ts y rest e

pub all_eat : (m : ℕ) (r : Name) → Eats (readers expressions no_reader m r)
all_eat m r = takes m r

-- whether a level is left
pub room_goes : (m h : ℕ) → 0 < h → h < m → fits (m - 1) h ≡ true
room_goes m h i j = le_true (max 1 h) (m - 1) (omega arith)
  where
    le_true : (a b : ℕ) → a ≤ b → nat_le a b ≡ true
    le_true a b h = grind (arith, nat_tests)

pub room_stays : (m h : ℕ) → 0 < h → m ≤ h → fits (m - 1) h ≡ false
room_stays m h i j = le_false (max 1 h) (m - 1) (omega arith)
  where
    le_false : (a b : ℕ) → b < a → nat_le a b ≡ false
    le_false a b h = grind (arith, nat_tests)

pub two_goes : (m : ℕ) → 2 ≤ m → nat_le 1 (m - 1) ≡ true
two_goes m h = grind (arith, nat_tests)

pub two_stays : (m : ℕ) → m < 2 → nat_le 1 (m - 1) ≡ false
two_stays m h = grind (arith, nat_tests)
