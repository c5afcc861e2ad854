use Rattle.std.proofs.Common.{◌≡◌, ◌++◌, drop, map}
use Rattle.test_session.specs.Collections.{item_shown}
use Rattle.test_suite.specs.Suites.{numbered_item}
use Rattle.test_session.proofs.items.items_shown.Given as goal

abbrev pub invariant-loop-number : goal.invariant-loop-number
invariant-loop-number l = l.all.items ++ map (λ n. item_shown (numbered_item l.items n)) (drop l.number-index l.selected) ≡ map (λ n. item_shown (numbered_item l.items n)) l.selected
