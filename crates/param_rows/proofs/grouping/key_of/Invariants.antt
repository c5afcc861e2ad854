use Rattle.std.proofs.Common.{◌≡◌, take}
use Rattle.param_rows.specs.Grouping.{key_of}
use Rattle.param_rows.proofs.grouping.key_of.Given as goal

abbrev pub invariant-loop-param : goal.invariant-loop-param
invariant-loop-param l = l.pairs.items ≡ key_of l.scope (take l.param-index l.params)
