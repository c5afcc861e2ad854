use Rattle.std.proofs.Common.{◌≡◌, ◌≤◌, ◌*◌, take}
use Rattle.report_text.specs.Summary.{times}
use Rattle.report_text.proofs.tally.times.Given as goal

abbrev pub invariant-loop-report : goal.invariant-loop-report
invariant-loop-report l = (l.count ≡ times l.outcome (take l.report-index l.reports)) × (l.count ≤ 3 * l.report-index)
