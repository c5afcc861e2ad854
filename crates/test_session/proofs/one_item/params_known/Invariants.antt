use Rattle.std.proofs.Common.{◌≡◌, ◌++◌, drop, map}
use Rattle.test_session.specs.Stacks.{param_known}
use Rattle.test_session.proofs.one_item.params_known.Given as goal

abbrev pub invariant-loop-one : goal.invariant-loop-one
invariant-loop-one l = l.all ++ map param_known (drop l.one-index l.params) ≡ map param_known l.params
