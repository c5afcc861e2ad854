use Rattle.std.proofs.Common.{take}
use Rattle.assert_rewrite.specs.Lowers.{LowersDefaults}
use Rattle.assert_rewrite.proofs.parameters.lower_defaults.Given as goal

abbrev pub invariant-loop-param : goal.invariant-loop-param
invariant-loop-param l = LowersDefaults (take l.param-index l.params) l.done.items
