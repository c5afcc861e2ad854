use Rattle.std.proofs.Common.{◌≡◌, [], ◌∷◌, length}
use Rattle.py_cursor.specs.token_kinds.Kinds.{op_number}
use Rattle.statement_readers.specs.Words.{names_on}
use Rattle.py_parse.proofs.parts.further_names.Given as goal

abbrev pub invariant-loop-separator : goal.invariant-loop-separator
invariant-loop-separator l = names_on (op_number l.separator) (l.all.items, l.p.rest.now) ≡ names_on (op_number l.separator) (l.fn.first ∷ [], l.fn.p.rest.now)

abbrev pub decreases-loop-separator : goal.decreases-loop-separator
decreases-loop-separator l = length l.p.rest.now
