-- What the phases of an item show: pytest's "How to write and report assertions" and "How to use skip and xfail".
use Rattle.std.specs.Prelude.{ℕ, ◌==◌, List, length, Bool, true, false, not, ◌||◌, if◌then◌else◌, Option, None, Some, codes}
use Rattle.report_parts.specs.declared.outcome.Outcome.{Outcome}
use Rattle.report_parts.specs.declared.outcome.Outcome.TheVariants.{Passed, Failed, Error, Skipped, Xfailed, Xpassed}
use Rattle.report_parts.specs.declared.outcome.Phase.{Phase}
use Rattle.report_parts.specs.declared.outcome.Phase.TheVariants.{Setup, Call, Teardown}
use Rattle.report_parts.specs.declared.report.ItemReport.{ItemReport}
use Rattle.report_parts.specs.declared.report.PhaseEnd.{PhaseEnd}
use Rattle.report_parts.specs.declared.report.PhaseEnd.TheVariants as end

-- what the end of a phase shows
abbrev pub outcome_of : Phase → PhaseEnd → Option Outcome
outcome_of phase end.NotRun = None
outcome_of Call end.Passed = Some Passed
outcome_of Setup end.Passed = None
outcome_of Teardown end.Passed = None
outcome_of phase end.Skipped = Some Skipped
outcome_of phase end.Xfailed = Some Xfailed
outcome_of phase end.Xpassed = Some Xpassed
outcome_of phase (end.StrictXpassed frame reason) = Some Failed
outcome_of Call (end.Raised tolds) = Some Failed
outcome_of Setup (end.Raised tolds) = Some Error
outcome_of Teardown (end.Raised tolds) = Some Error

abbrev pub letter : Outcome → List ℕ
letter Passed = codes "."
letter Failed = codes "F"
letter Error = codes "E"
letter Skipped = codes "s"
letter Xfailed = codes "x"
letter Xpassed = codes "X"

abbrev pub word : Outcome → List ℕ
word Passed = codes "PASSED"
word Failed = codes "FAILED"
word Error = codes "ERROR"
word Skipped = codes "SKIPPED"
word Xfailed = codes "XFAIL"
word Xpassed = codes "XPASS"

-- the place of an outcome among them, by which two are told apart
abbrev pub outcome_number : Outcome → ℕ
outcome_number Passed = 0
outcome_number Failed = 1
outcome_number Error = 2
outcome_number Skipped = 3
outcome_number Xfailed = 4
outcome_number Xpassed = 5

-- 1 where this outcome is shown, else 0
abbrev pub once : Outcome → Option Outcome → ℕ
once outcome None = 0
once outcome (Some shown) = if outcome_number outcome == outcome_number shown then 1 else 0

-- a phase that raised
abbrev pub is_raised : PhaseEnd → Bool
is_raised end.NotRun = false
is_raised end.Passed = false
is_raised end.Skipped = false
is_raised end.Xfailed = false
is_raised end.Xpassed = false
is_raised (end.StrictXpassed frame reason) = false
is_raised (end.Raised tolds) = true

-- a call that raised, or that passed under a strict xfail mark
abbrev pub is_failed : PhaseEnd → Bool
is_failed end.NotRun = false
is_failed end.Passed = false
is_failed end.Skipped = false
is_failed end.Xfailed = false
is_failed end.Xpassed = false
is_failed (end.StrictXpassed frame reason) = true
is_failed (end.Raised tolds) = true

-- an item with an error, and one whose call failed
abbrev pub has_error : ItemReport → Bool
has_error report = is_raised report.setup || is_raised report.teardown

abbrev pub has_failed : ItemReport → Bool
has_failed report = is_failed report.call

abbrev pub not_empty : {X : Type 0} → List X → Bool
not_empty xs = not (length xs == 0)
