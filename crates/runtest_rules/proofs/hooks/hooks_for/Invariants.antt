use Rattle.std.proofs.Common.{◌≡◌, ◌++◌, drop}
use Rattle.std.specs.List.{filter}
use Rattle.runtest_rules.specs.Rules.{serves}
use Rattle.runtest_rules.proofs.hooks.hooks_for.Given as goal

abbrev pub invariant-loop-which : goal.invariant-loop-which
invariant-loop-which l = l.hooks ++ filter (serves l.table l.item) (drop l.which-index l.impls) ≡ filter (serves l.table l.item) l.impls
