use Rattle.demand_tests.specs.Logs.{IsBench}
use Rattle.demand_tests.proofs.benches.bench_of.Given as goal

abbrev pub invariant-loop-row : goal.invariant-loop-row
invariant-loop-row l = IsBench l.script l.table
