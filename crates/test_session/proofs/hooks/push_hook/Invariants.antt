use Rattle.std.proofs.Common.{◌≡◌, ◌++◌, drop}
use Rattle.test_session.specs.Collections.{impls_shown}
use Rattle.test_session.proofs.hooks.push_hook.Given as goal

abbrev pub invariant-loop-which : goal.invariant-loop-which
invariant-loop-which l = l.all.items ++ impls_shown l.count l.hook (drop l.which-index l.impls) ≡ l.initial.all.items ++ impls_shown l.count l.hook l.impls
