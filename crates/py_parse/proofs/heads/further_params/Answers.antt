use Rattle.std.proofs.Common.{◌≡◌, true, [], ◌∷◌, arith}
use Rattle.statement_readers.specs.Words.{starts}
use Rattle.py_tree.specs.Statements.{parameters}
use Rattle.py_cursor.specs.token_kinds.Numbers as k
use Rattle.statement_readers.proofs.Turns.{first_takes}
use Rattle.statement_readers.proofs.Signatures.{param_takes, params_fails}
use Rattle.py_parse.proofs.heads.further_params.Goals as goal

pub loop-comma-smaller : goal.loop-comma-smaller
loop-comma-smaller c = omega (arith, first_takes (k.comma ∷ []) c.loop-comma.p.rest.now c.in-Some._comma.now c.take_op.new.self.rest.now c.in-Some.ensures, param_takes (parameters c.loop-comma.all.items) c.take_op.new.self.rest.now (parameters c.in-Some-param.more.items) c.param.new.p.rest.now c.in-Some-param.ensures)

pub returns-in_default-param : goal.returns-in_default-param
returns-in_default-param c =
    let b : starts (k.name ∷ []) c.take_op.new.self.rest.now ≡ true = cc in
    params_fails (parameters c.loop-comma.all.items) c.loop-comma.p.rest.now c.in-Some._comma.now c.take_op.new.self.rest.now c.param.new.p.stop _ c.in-Some.ensures b c.in_default-param.ensures c.loop-comma.invariant
