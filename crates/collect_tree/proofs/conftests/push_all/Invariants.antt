use Rattle.std.proofs.Common.{◌≡◌, ◌++◌, vec_len}
use Rattle.collect_tree.proofs.conftests.push_all.Given as goal

abbrev pub invariant-more : goal.invariant-more
invariant-more l = l.hooks.items ++ l.left.items ≡ l.fn.hooks.items ++ l.fn.more.items

abbrev pub decreases-more : goal.decreases-more
decreases-more l = vec_len l.left
