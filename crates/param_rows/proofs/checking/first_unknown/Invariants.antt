use Rattle.std.proofs.Common.{◌≡◌, drop}
use Rattle.param_rows.specs.Faults.{first_unknown}
use Rattle.param_rows.proofs.checking.first_unknown.Given as goal

abbrev pub invariant-loop-name : goal.invariant-loop-name
invariant-loop-name l = first_unknown l.known (drop l.name-index l.names) ≡ first_unknown l.known l.names
