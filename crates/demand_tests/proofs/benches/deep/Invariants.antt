use Rattle.demand_tests.specs.Logs.{IsBench}
use Rattle.demand_tests.proofs.benches.deep.Given as goal

abbrev pub invariant-loop-name : goal.invariant-loop-name
invariant-loop-name l = IsBench l.script l.table
