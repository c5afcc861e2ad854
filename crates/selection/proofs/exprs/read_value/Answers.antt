use Rattle.std.specs.Str.{chars}
use Rattle.selection.specs.Reading.{expression_answer}
use Rattle.selection.proofs.Reading.{answer_is}
use Rattle.selection.proofs.Selecting.{blank_read, err_read, ok_read}
use Rattle.selection.proofs.exprs.read_value.Goals as goal

pub returns-then-is_blank_value : goal.returns-then-is_blank_value
returns-then-is_blank_value c = blank_read c.args.flag c.args.value.now c.if-is_blank_value.ensures

pub returns-in-Ok : goal.returns-in-Ok
returns-in-Ok c =
    ok_read c.args.flag c.args.value.now c.in-Ok.expr c.if-is_blank_value.ensures (c.in-Ok.ensures.only (expression_answer (chars c.args.value.now)) (answer_is (chars c.args.value.now)))

pub returns-in-Err : goal.returns-in-Err
returns-in-Err c =
    rw c.fault_seen.ensures (err_read c.args.flag c.args.value.now c.in-Err.fault c.if-is_blank_value.ensures (c.in-Err.ensures.only (expression_answer (chars c.args.value.now)) (answer_is (chars c.args.value.now))))
