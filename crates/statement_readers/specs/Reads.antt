-- What a line of expressions reads, with m levels left.
use Rattle.std.specs.Prelude.{ℕ, List}
use Rattle.py_cursor.specs.py_tokens.declared.token.Token.{Token}
use Rattle.parsing.specs.Reading.{Read}
use Rattle.grammar.specs.Levels.{readers}
use Rattle.py_cursor.specs.py_expressions.Sorts.{Name, El, sort}
use Rattle.py_cursor.specs.py_expressions.Lines.{expressions, no_reader}

abbrev pub reads_as : (m : ℕ) → (r : Name) → List Token → Read Token (El (sort r) × ℕ)
reads_as m r ts = readers expressions no_reader m r ts
