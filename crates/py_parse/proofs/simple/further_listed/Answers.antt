use Rattle.std.proofs.Common.{◌≡◌, true, [], ◌∷◌, length, ap, arith}
use Rattle.py_cursor.specs.token_kinds.Numbers as k
use Rattle.statement_readers.specs.Words.{starts}
use Rattle.statement_readers.proofs.Turns.{first_takes}
use Rattle.statement_readers.proofs.Loops.{alias_takes, listed_fails}
use Rattle.py_parse.proofs.simple.further_listed.Goals as goal

pub loop-comma-smaller : goal.loop-comma-smaller
loop-comma-smaller c = omega (arith, ap length c.in-Some-made.ensures.makes.1, first_takes (k.comma ∷ []) c.loop-comma.p.rest.now c.in-Some-take_op._comma.now c.take_op.new.self.rest.now c.in-Some-take_op.ensures, alias_takes c.take_op.new.self.rest.now c.in-Some-alias.next c.alias.new.p.rest.now c.in-Some-alias.ensures)

pub returns-in_default-alias : goal.returns-in_default-alias
returns-in_default-alias c =
    let b : starts (k.name ∷ []) c.take_op.new.self.rest.now ≡ true = cc in
    listed_fails c.loop-comma.all.items c.loop-comma.p.rest.now c.in-Some-take_op._comma.now c.take_op.new.self.rest.now c.alias.new.p.stop _ c.in-Some-take_op.ensures b c.in_default-alias.ensures c.loop-comma.invariant
