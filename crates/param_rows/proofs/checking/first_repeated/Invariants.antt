use Rattle.std.proofs.Common.{◌≡◌, ◌++◌, take, drop}
use Rattle.param_rows.specs.Faults.{first_repeated}
use Rattle.param_rows.proofs.checking.first_repeated.Given as goal

abbrev pub invariant-loop-name : goal.invariant-loop-name
invariant-loop-name l =
    (l.earlier.items ≡ l.initial.earlier.items ++ take l.name-index l.names)
    × (first_repeated l.earlier.items (drop l.name-index l.names) ≡ first_repeated l.initial.earlier.items l.names)
