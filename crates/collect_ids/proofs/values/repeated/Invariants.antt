use Rattle.std.proofs.Common.{◌≡◌}
use Rattle.std.specs.Prelude.{replicate}
use Rattle.collect_ids.proofs.values.repeated.Given as goal

abbrev pub invariant-loop : goal.invariant-loop
invariant-loop l = l.names ≡ replicate l.counter l.name
