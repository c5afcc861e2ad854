-- WHOLE SOURCES: the readers of expressions in those of statements.
use Rattle.std.specs.Prelude.{ℕ, List}
use Rattle.std.proofs.Common.{suc}
use Rattle.py_expressions.specs.py_tokens.declared.token.Token.{Token}
use Rattle.py_tree.specs.Statements.{Block}
use Rattle.parsing.specs.Reading.{Read}
use Rattle.grammar.specs.Table.{Fars, Line}
use Rattle.grammar.specs.Levels.{FarReaders, readers}
use Rattle.grammar.specs.Answer.{Within, IsAnswer, answer}
use Rattle.py_expressions.specs.Lines.{expressions, no_fars, no_reader}
use Rattle.py_grammar.specs.Sorts.{source}
use Rattle.py_grammar.specs.Lines.{statements}

-- expressions at most n levels high, and all
abbrev pub limited : ℕ → Fars statements
limited n = λ q. Within expressions no_fars n q

abbrev pub unlimited : Fars statements
unlimited = λ q. Line expressions no_fars q

abbrev pub expression_readers : ℕ → FarReaders statements
expression_readers n = λ q. readers expressions no_reader n q

-- The reading with expressions and blocks at most n levels deep; or the first token with which no reading goes on; or the first with which readings go on, but none so.
abbrev pub IsSourceReading : ℕ → List Token → Read Token (Block × ℕ) → Type 0
IsSourceReading n ts x = IsAnswer statements (limited n) unlimited (suc n) source ts x

-- WHAT THE READER GIVES for a whole list
abbrev pub source_read : ℕ → List Token → Read Token (Block × ℕ)
source_read n ts = answer statements (expression_readers n) (suc n) source ts
