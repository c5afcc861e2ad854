-- Each line of expressions takes a token.
use Rattle.std.proofs.Common.{◌≡◌, ℕ, ◌<◌, List, length}
use Rattle.py_cursor.specs.py_tokens.declared.token.Token.{Token}
use Rattle.parsing.specs.Reading.{Found}
use Rattle.grammar.proofs.Along.{reader_takes}
use Rattle.py_cursor.specs.py_expressions.Sorts.{Name, El, sort}
use Rattle.py_cursor.specs.py_expressions.Lines.{expressions, no_fars, no_reader}
use Rattle.py_cursor.proofs.py_expressions_lemmas.Good.{good_expressions}
use Rattle.statement_readers.specs.Reads.{reads_as}

pub takes : (m : ℕ) (r : Name) (ts : List Token) (y : El (sort r) × ℕ) (rest : List Token) → reads_as m r ts ≡ Found y rest → length rest < length ts
takes m r ts y rest e = reader_takes expressions good_expressions no_fars no_fars no_reader (λ r. absurd r) m r ts y rest e
