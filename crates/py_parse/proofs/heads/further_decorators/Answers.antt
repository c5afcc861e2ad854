use Rattle.std.proofs.Common.{[], ◌∷◌, length, ap, arith}
use Rattle.py_tree.specs.Trees.{tree}
use Rattle.py_cursor.specs.token_kinds.Numbers as k
use Rattle.statement_readers.proofs.Turns.{first_takes}
use Rattle.statement_readers.proofs.Signatures.{decorator_takes}
use Rattle.py_parse.proofs.heads.further_decorators.Goals as goal

pub loop-at-smaller : goal.loop-at-smaller
loop-at-smaller c = omega (arith, ap length c.in-Some-made.ensures.makes.1, first_takes (k.at ∷ []) c.loop-at.p.rest.now c.in-Some._at.now c.take_op.new.self.rest.now c.in-Some.ensures, decorator_takes c.take_op.new.self.rest.now (tree c.in-Some-decorator.next.value) c.decorator.new.p.rest.now c.in-Some-decorator.ensures)
