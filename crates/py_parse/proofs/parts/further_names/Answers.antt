use Rattle.std.proofs.Common.{[], ◌∷◌, length, ap, arith}
use Rattle.py_cursor.specs.token_kinds.Kinds.{op_number}
use Rattle.statement_readers.proofs.Turns.{first_takes}
use Rattle.statement_readers.proofs.Loops.{name_takes}
use Rattle.py_parse.proofs.parts.further_names.Goals as goal

pub loop-separator-smaller : goal.loop-separator-smaller
loop-separator-smaller c = omega (arith, ap length c.in-Some-made.ensures.makes.1, first_takes (op_number c.args.separator ∷ []) c.loop-separator.p.rest.now c.in-Some-take_op._separator.now c.take_op.new.self.rest.now c.in-Some-take_op.ensures, name_takes c.take_op.new.self.rest.now c.in-Some-name.next c.name.new.p.rest.now c.in-Some-name.ensures)
