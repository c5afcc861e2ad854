use Rattle.std.proofs.Common.{◌≡◌, drop}
use Rattle.session_rules.specs.Teardown.{finalize_all, torn}
use Rattle.setup_stack.proofs.tearing.finalize_each.Given as goal

abbrev pub invariant-loop-finalizer : goal.invariant-loop-finalizer
invariant-loop-finalizer g l = finalize_all (g.W.Executor.rules l.setting) (drop l.finalizer-index l.finalizers) (torn l.raised l.world) ≡ finalize_all (g.W.Executor.rules l.setting) l.finalizers (torn l.fn.raised l.fn.world)
