use Rattle.std.proofs.Common.{◌≡◌, ◌++◌, drop}
use Rattle.conftest_hooks.specs.Names.{hook_arguments}
use Rattle.conftest_hooks.proofs.names.hook_arguments.Given as goal

abbrev pub invariant-loop-name : goal.invariant-loop-name
invariant-loop-name l = l.arguments ++ hook_arguments (drop l.name-index l.some) ≡ hook_arguments l.some
