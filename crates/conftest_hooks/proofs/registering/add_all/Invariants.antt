use Rattle.std.proofs.Common.{◌≡◌, vec_len}
use Rattle.conftest_hooks.specs.Registered.{with_hooks}
use Rattle.conftest_hooks.proofs.registering.add_all.Given as goal

abbrev pub invariant-found : goal.invariant-found
invariant-found l = with_hooks l.table l.left.items ≡ with_hooks l.fn.table l.fn.found.items

abbrev pub decreases-found : goal.decreases-found
decreases-found l = vec_len l.left
