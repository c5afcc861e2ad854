use Rattle.std.proofs.Common.{◌≡◌, ◌++◌, drop, map}
use Rattle.run_items.specs.NotRun.{unrun_report}
use Rattle.test_suite.specs.Suites.{numbered_item}
use Rattle.run_items.proofs.running.unrun_all.Given as goal

abbrev pub invariant-loop-number : goal.invariant-loop-number
invariant-loop-number l = l.reports.items ++ map (λ n. unrun_report (numbered_item l.items n)) (drop l.number-index l.selected) ≡ map (λ n. unrun_report (numbered_item l.items n)) l.selected
