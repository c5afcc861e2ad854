use Rattle.std.proofs.Common.{◌≡◌, length}
use Rattle.conftest_hooks.specs.Names.{first_untaken}
use Rattle.conftest_hooks.proofs.names.first_untaken.Given as goal

abbrev pub invariant-names : goal.invariant-names
invariant-names l = first_untaken l.hook l.rest ≡ first_untaken l.hook l.some

abbrev pub decreases-names : goal.decreases-names
decreases-names l = length l.rest
