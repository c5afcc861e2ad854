-- The table is a good one: computed line by line.
use Rattle.std.proofs.Common.{◌≡◌, Bool, true, false, refl}
use Rattle.parsing.proofs.Sets.{no_false}
use Rattle.grammar.specs.Answer.{avoids}
use Rattle.grammar.specs.Levels.{IsGood}
use Rattle.py_expressions.specs.token_kinds.Numbers as k
use Rattle.py_grammar.specs.Sorts.{BlockName, simple, simples, stmt, stmts, body, source}
use Rattle.py_grammar.specs.Lines.{statements}

pub good_statements : IsGood statements
good_statements simple = refl
good_statements simples = refl
good_statements stmt = refl
good_statements stmts = refl
good_statements body = refl
good_statements source = refl

-- THE TOKEN OF THE END stands in no line but the last
abbrev pub below_source : BlockName → Bool
below_source source = false
below_source r = true

pub no_end_below : (r : BlockName) → below_source r ≡ true → avoids statements k.end below_source (statements.body r) ≡ true
no_end_below simple e = refl
no_end_below simples e = refl
no_end_below stmt e = refl
no_end_below stmts e = refl
no_end_below body e = refl
no_end_below source e = no_false e
