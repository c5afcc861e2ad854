use Rattle.std.proofs.Common.{◌≡◌, drop}
use Rattle.parsing.specs.Reading.{has}
use Rattle.py_expressions.specs.token_kinds.Kinds.{kind}
use Rattle.py_cursor.specs.Cursor.{kinds_of}
use Rattle.py_cursor.proofs.cursor.is_among.Given as goal

abbrev pub invariant-loop-sign : goal.invariant-loop-sign
invariant-loop-sign l = has (kind l.token) (kinds_of (drop l.sign-index l.set)) ≡ has (kind l.token) (kinds_of l.set)
