use Rattle.std.proofs.Common.{arith, refl}
use Rattle.pytest_core.proofs.Wrote.{limit_none, limit_put, no_fault_put, not_sink}
use Rattle.pytest_core.proofs.answer.put_limit.Goals as goal

pub returns-in-Ok-clause-put : goal.returns-in-Ok-clause-put
returns-in-Ok-clause-put g c =
    let r = c.in-Ok.response in
    limit_put c.args.fault (r.0.items, r.1) (g.S.Sink.told c.args.out.now) (g.S.Sink.told c.put_response.new.out) c.put_response.result c.in-Ok.ensures.response c.in-Ok.ensures.limit c.put_response.ensures.put

pub returns-in-Ok-clause-tree : goal.returns-in-Ok-clause-tree
returns-in-Ok-clause-tree g c = λ e. absurd (no_fault_put _ _ _ _ c.put_response.result c.put_response.ensures.put e)

pub returns-clause-put : goal.returns-clause-put
returns-clause-put g c = limit_none c.args.fault c.in-Err.refused (g.S.Sink.told c.args.out.now) c.in-Err.ensures.fault

pub returns-clause-sink : goal.returns-clause-sink
returns-clause-sink g c = record { later = omega arith; failed = λ e. absurd (not_sink c.in-Err.refused _ c.in-Err.ensures.fault refl e) }
