use Rattle.std.proofs.Common.{◌≡◌, ◌++◌, vec_len}
use Rattle.seq.proofs.list.push_all.Given as goal

abbrev pub invariant-rest : goal.invariant-rest
invariant-rest g l = l.list ++ l.left.items ≡ l.fn.list ++ l.fn.more

abbrev pub decreases-rest : goal.decreases-rest
decreases-rest g l = vec_len l.left
