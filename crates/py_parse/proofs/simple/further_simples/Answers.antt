use Rattle.std.proofs.Common.{[], ◌∷◌, length, ap, arith}
use Rattle.py_tree.specs.Statements.{statement}
use Rattle.py_cursor.specs.token_kinds.Numbers as k
use Rattle.statement_readers.proofs.Turns.{first_takes}
use Rattle.statement_readers.proofs.Takes.{simple_takes}
use Rattle.py_parse.proofs.simple.further_simples.Goals as goal

pub loop-semicolon-smaller : goal.loop-semicolon-smaller
loop-semicolon-smaller c = omega (arith, ap length c.in-Some-made.ensures.makes.1, first_takes (k.semicolon ∷ []) c.loop-semicolon.p.rest.now c.in-Some._semicolon.now c.take_op.new.self.rest.now c.in-Some.ensures, simple_takes c.take_op.new.self.rest.now (statement c.in-Some-simple.next) c.simple.new.p.rest.now c.in-Some-simple.ensures)
