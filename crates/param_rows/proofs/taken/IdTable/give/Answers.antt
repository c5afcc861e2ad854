use Rattle.std.proofs.Common.{refl}
use Rattle.param_rows.proofs.Tables.{tells_new, tells_known}
use Rattle.param_rows.proofs.taken.IdTable.give.Goals as goal

pub returns-then-is_new : goal.returns-then-is_new
returns-then-is_new c = λ before tells. tells_new before c.args.id.now _ _ c.in_ok-is_new.is_new c.in_ok-is_new.ensures.ids refl c.in_ok-is_new.ensures.fresh c.if-is_new.true tells

pub returns : goal.returns
returns c = λ before tells. tells_known before c.args.id.now _ _ c.in_ok-is_new.is_new c.in_ok-is_new.ensures.ids c.in_ok-put.ensures c.in_ok-is_new.ensures.fresh c.if-is_new.false tells
