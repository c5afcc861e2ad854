use Rattle.demand_tests.proofs.Rows.{bench_scopes}
use Rattle.demand_tests.proofs.benches.demand_all.Goals as goal

pub demand_all-requires-clause-scopes : goal.demand_all-requires-clause-scopes
demand_all-requires-clause-scopes c = bench_scopes c.args.bench.now.script c.args.bench.now.table c.requires.bench
