use Rattle.std.proofs.Common.{◌≡◌, [], drop}
use Rattle.setup_stack.specs.Grants.{orders_of}
use Rattle.setup_stack.proofs.lists.orders_of.Given as goal

abbrev pub invariant-loop-one : goal.invariant-loop-one
invariant-loop-one g l = orders_of (drop l.one-index l.given) l.out ≡ orders_of l.given []
