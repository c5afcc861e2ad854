-- The table is a good one: computed line by line.
use Rattle.std.proofs.Common.{◌≡◌, ℕ, Bool, true, ◌&&◌, refl}
use Rattle.grammar.proofs.Stands.{and_true}
use Rattle.grammar.specs.Answer.{avoids}
use Rattle.grammar.specs.Levels.{good_line, IsGood}
use Rattle.token_kinds.specs.Numbers as k
use Rattle.py_expressions.specs.Sorts.{Name, other, atom, arguments, slice, primary, single, power, unary, prod, sum, shift, band, xor, bitor, compare, negation, conjunct, disjunct, expr, exprs, targets}
use Rattle.py_expressions.specs.Lines.{expressions}

-- THE TOKEN OF THE END stands in no expression, nor does `yield`
abbrev pub inside : Name → Bool
inside r = true

abbrev absent : ℕ → Name → Bool
absent c r = avoids expressions c inside (expressions.body r)

line_good : (r : Name) → (good_line expressions r && (absent k.end r && absent k.yield r)) ≡ true
line_good other = refl
line_good atom = refl
line_good arguments = refl
line_good slice = refl
line_good primary = refl
line_good single = refl
line_good power = refl
line_good unary = refl
line_good prod = refl
line_good sum = refl
line_good shift = refl
line_good band = refl
line_good xor = refl
line_good bitor = refl
line_good compare = refl
line_good negation = refl
line_good conjunct = refl
line_good disjunct = refl
line_good expr = refl
line_good exprs = refl
line_good targets = refl

pub good_expressions : IsGood expressions
good_expressions r = (and_true _ _ (line_good r)).0

pub no_end_within : (r : Name) → inside r ≡ true → avoids expressions k.end inside (expressions.body r) ≡ true
no_end_within r e = (and_true _ _ (and_true _ _ (line_good r)).1).0

pub no_yield_within : (r : Name) → inside r ≡ true → avoids expressions k.yield inside (expressions.body r) ≡ true
no_yield_within r e = (and_true _ _ (and_true _ _ (line_good r)).1).1
