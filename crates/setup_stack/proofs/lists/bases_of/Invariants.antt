use Rattle.std.proofs.Common.{◌≡◌, [], drop}
use Rattle.setup_stack.specs.Grants.{bases_of}
use Rattle.setup_stack.proofs.lists.bases_of.Given as goal

abbrev pub invariant-loop-one : goal.invariant-loop-one
invariant-loop-one g l = bases_of (drop l.one-index l.given) l.out ≡ bases_of l.given []
