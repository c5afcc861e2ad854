use Rattle.mark_expr.proofs.reading.read_tokens.Goals as goal

pub returns-in-Err-Deep : goal.returns-in-Err-Deep
returns-in-Err-Deep c = (c.in-Err-Deep._rest.now, rw c.in-Err-Deep.field-0-is at c.in-Err-Deep.ensures)
