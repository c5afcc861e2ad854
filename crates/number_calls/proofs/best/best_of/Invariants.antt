use Rattle.std.proofs.Common.{◌≡◌, ◌≤◌, drop}
use Rattle.number_calls.specs.Best.{best_from}
use Rattle.number_calls.proofs.best.best_of.Given as goal

abbrev pub invariant-loop-v : goal.invariant-loop-v
invariant-loop-v l = record {
  rest : best_from l.least l.heap l.fn.first 1 l.rest ≡ best_from l.least l.heap l.best l.used (drop l.v-index l.rest);
  within : l.used ≤ l.budget;
}
