use Rattle.demand_tests.proofs.Rows.{bench_scopes}
use Rattle.demand_tests.proofs.benches.demand.Goals as goal

pub demand-requires-clause-scopes : goal.demand-requires-clause-scopes
demand-requires-clause-scopes c = bench_scopes c.args.bench.now.script c.args.bench.now.table c.requires.bench

pub returns-in-Ok-clause-frames : goal.returns-in-Ok-clause-frames
returns-in-Ok-clause-frames c = rw c.in-Ok.is at c.demand.ensures.frames

pub returns-in-Err-Told-clause-frames : goal.returns-in-Err-Told-clause-frames
returns-in-Err-Told-clause-frames c = rw (c.in-Err-Told.is, c.in-Err-Told.field-0-is) at c.demand.ensures.frames
