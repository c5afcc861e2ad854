-- What workers give, and what is written of it.
use Rattle.std.specs.Prelude.{◌≡◌, ℕ, List, [], false, length, Option, Result}
use Rattle.cli_words.specs.declared.options.Options.{Options}
use Rattle.report_parts.specs.declared.report.CollectReport.{CollectReport}
use Rattle.report_text.specs.Progress.{progress_of}
use Rattle.worker_sessions.specs.run_items.report_rules.Answer as rules
use Rattle.worker_sessions.specs.run_items.report_rules.Collected.{Collected}
use Rattle.worker_sessions.specs.run_items.runtest_rules.Language.{python}
use Rattle.worker_sessions.specs.run_items.test_suite.declared.suite.Suite.{Suite}
use Rattle.worker_runs.specs.declared.gathering.WorkersRun.{WorkersRun}
use Rattle.pytest_core.specs.Status.{status_seen}
use Rattle.pytest_core.specs.Streamed.{PutBy, rest_of}
use Rattle.pytest_core.specs.declared.refusal.RunFault.{RunFault}
use Rattle.pytest_core.specs.declared.status.Status.{Status}

-- all files were collected, and so many items are selected and deselected
pub record IsWhole (c : Collected python Suite) (count deselected : ℕ) : Type 0 where
  pub errors : c.errors ≡ []
  pub counted : count ≡ length c.selected
  pub others : deselected ≡ c.deselected

abbrev pub NoErrors : List CollectReport
NoErrors = []

-- the progress, the sections and the summary were written
abbrev pub WorkersPut : Options → ℕ → ℕ → WorkersRun → Option (List ℕ) → Option (List ℕ) → Result Status RunFault → Type 0
WorkersPut options count deselected run old new result =
    PutBy (rest_of options count deselected NoErrors (progress_of options run.reports.items run.places.items) run.reports.items false) (status_seen (rules.status_of count NoErrors run.reports.items)) old new result
