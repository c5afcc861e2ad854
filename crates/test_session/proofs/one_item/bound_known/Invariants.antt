use Rattle.std.proofs.Common.{◌≡◌, ◌++◌, drop, map}
use Rattle.test_session.specs.Stacks.{bound_known}
use Rattle.test_session.proofs.one_item.bound_known.Given as goal

abbrev pub invariant-loop-one : goal.invariant-loop-one
invariant-loop-one l = l.all ++ map (bound_known l.names) (drop l.one-index l.bound) ≡ map (bound_known l.names) l.bound
