use Rattle.std.proofs.Common.{◌≡◌, drop}
use Rattle.grammar.specs.Table.{lookup_key}
use Rattle.py_expressions.specs.token_kinds.Kinds.{kind}
use Rattle.py_cursor.specs.Cursor.{rows_of}
use Rattle.py_cursor.proofs.cursor.meaning_of.Given as goal

abbrev pub invariant-loop-row : goal.invariant-loop-row
invariant-loop-row g l = lookup_key (rows_of (drop l.row-index l.rows)) (kind l.token) ≡ lookup_key (rows_of l.rows) (kind l.token)
