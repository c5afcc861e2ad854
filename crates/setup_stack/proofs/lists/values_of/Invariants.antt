use Rattle.std.proofs.Common.{◌≡◌, take, map}
use Rattle.setup_stack.proofs.lists.values_of.Given as goal

abbrev pub invariant-loop-one : goal.invariant-loop-one
invariant-loop-one g l = l.out.items ≡ map (λ one. one.value) (take l.one-index l.given)
