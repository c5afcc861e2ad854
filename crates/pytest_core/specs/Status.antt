use Rattle.std.specs.Prelude.{ℕ, Bool, true, false}
use Rattle.worker_sessions.specs.run_items.report_rules.Answer as rules
use Rattle.pytest_core.specs.declared.status.Status.{Status}
use Rattle.pytest_core.specs.declared.status.Status.TheVariants.{Passed, Failed, Interrupted, Usage, NoTests, OutOfMemory, TreeFault, SinkFault}

-- the exit codes, pytest's from 0 to 5 (its reference, "Exit codes")
abbrev pub exit_code : Status → ℕ
exit_code Passed = 0
exit_code Failed = 1
exit_code Interrupted = 2
exit_code Usage = 4
exit_code NoTests = 5
exit_code OutOfMemory = 12
exit_code TreeFault = 13
exit_code SinkFault = 14

-- the status of a report
abbrev pub status_seen : rules.Status → Status
status_seen rules.Passed = Passed
status_seen rules.Failed = Failed
status_seen rules.Interrupted = Interrupted
status_seen rules.Usage = Usage
status_seen rules.NoTests = NoTests

-- the statuses of reports
abbrev pub is_said : Status → Bool
is_said Passed = true
is_said Failed = true
is_said Interrupted = true
is_said Usage = true
is_said NoTests = true
is_said OutOfMemory = false
is_said TreeFault = false
is_said SinkFault = false
