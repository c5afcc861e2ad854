use Rattle.std.proofs.Common.{[], ◌∷◌, length, ap, arith}
use Rattle.py_cursor.specs.token_kinds.Numbers as k
use Rattle.statement_readers.proofs.Turns.{first_takes}
use Rattle.statement_readers.proofs.Loops.{alias_takes}
use Rattle.py_parse.proofs.simple.further_aliases.Goals as goal

pub loop-comma-smaller : goal.loop-comma-smaller
loop-comma-smaller c = omega (arith, ap length c.in-Some-made.ensures.makes.1, first_takes (k.comma ∷ []) c.loop-comma.p.rest.now c.in-Some-take_op._comma.now c.take_op.new.self.rest.now c.in-Some-take_op.ensures, alias_takes c.take_op.new.self.rest.now c.in-Some-alias.next c.alias.new.p.rest.now c.in-Some-alias.ensures)
