use Rattle.std.proofs.Common.{◌≡◌, ◌++◌, drop, map}
use Rattle.test_session.specs.Collections.{hook_function}
use Rattle.test_session.proofs.hooks.push_hook_functions.Given as goal

abbrev pub invariant-loop-hook : goal.invariant-loop-hook
invariant-loop-hook l = l.codes ++ map hook_function (drop l.hook-index l.hooks) ≡ l.initial.codes ++ map hook_function l.hooks
