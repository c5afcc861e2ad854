-- THE REPORT of words and files.
use Rattle.std.specs.Prelude.{◌≡◌, ℕ, List, [], ◌∷◌, length, map, min, Bool, false, not, ◌&&◌, ◌||◌, ◌==◌, Option, None, Some, MatchBool, MatchOption, MatchResult, if◌then◌else◌}
use Rattle.std.specs.List.{filter_map}
use Rattle.cli_words.specs.Faults.{usage_text}
use Rattle.cli_words.specs.Info.{info_of}
use Rattle.cli_words.specs.Options.{asks_for_workers, options_of}
use Rattle.cli_words.specs.declared.options.Options.{Options}
use Rattle.edge_io.specs.Files.{File, tree_limit}
use Rattle.report_parts.specs.Outcomes.{not_empty}
use Rattle.report_parts.specs.declared.report.ItemReport.{ItemReport}
use Rattle.report_parts.specs.declared.report.Place.{Place}
use Rattle.report_rules.specs.Answer.{PrintedAnswer, conftest_fault, info_answer, limit_text, refusal, report_bytes, status_of}
use Rattle.report_rules.specs.Collected.{Collected, Collection, Refused, ConftestFault, Whole, Profile, report_language}
use Rattle.report_rules.specs.Groups.{groups}
use Rattle.report_rules.specs.Items.{item_report}
use Rattle.report_rules.specs.Rows.{ReportRow, Task, ran, report_row, session_rows, task}
use Rattle.report_rules.specs.Shares.{by_group, tasks_from, worked}
use Rattle.session_rules.specs.Session.{has_stopped}
use Rattle.session_rules.specs.Teardown.{SessionState}
use Rattle.session_rules.specs.World.{Language, Rules}
use Rattle.share_files.specs.Deal.{Share}

-- whether items run: not with `--collect-only`, and not where a file could not be collected
abbrev pub runs : {L : Language} {T : Type 0} → Options → Collected L T → Bool
runs options c = not (options.collect_only || not_empty c.errors)

-- the number of workers: as many as `-n` asks for, and no more than there are groups; with 0 there is one thread
abbrev pub workers_of : {L : Language} {T : Type 0} → Options → Collected L T → ℕ
workers_of options c = if asks_for_workers options && runs options c then min options.workers (length (groups c.selected)) else 0

-- the selected items on one thread
abbrev pub single_thread : {L : Language} {T : Type 0} → Collected L T → List Task
single_thread c = map (task None) c.selected

-- the tasks of each session of a run: of one thread, or of each worker by the groups that it took
abbrev pub shares : {L : Language} {T : Type 0} → Options → Collected L T → List (List ℕ) → List (List Task)
shares options c taken =
    if not (runs options c) then []
    else (if workers_of options c == 0 then single_thread c ∷ [] else tasks_from (groups c.selected) 0 taken)

-- workers don't stop early: the words that ask for them don't ask for that
abbrev pub maxfail_of : {L : Language} {T : Type 0} → Options → Collected L T → ℕ
maxfail_of options c = if workers_of options c == 0 then options.maxfail else 0

-- the sessions of a run
abbrev pub sessions : {L : Language} {T : Type 0} → Rules L → Options → Collected L T → List (List ℕ) → List (SessionState L)
sessions rules options c taken = map (ran rules c.world (maxfail_of options c)) (shares options c taken)

-- what is reported, in order: with `--collect-only` each selected item, which did not run; else what ran
abbrev pub rows_reported : {L : Language} {T : Type 0} → Rules L → Options → Collected L T → List (List ℕ) → List (ReportRow L)
rows_reported rules options c taken =
    if options.collect_only then map (λ t. report_row t [] []) (single_thread c)
    else (if not_empty c.errors then []
    else (if workers_of options c == 0 then session_rows rules c.world options.maxfail (single_thread c)
    else by_group 0 (length (groups c.selected)) (worked rules c.world (tasks_from (groups c.selected) 0 taken))))

-- whether maxfail was reached
abbrev pub reached_maxfail : {L : Language} {T : Type 0} → Rules L → Options → Collected L T → Bool
reached_maxfail rules options c =
    (runs options c && (workers_of options c == 0)) && has_stopped options.maxfail (ran rules c.world options.maxfail (single_thread c))

-- with workers each group is taken once; without, none is
abbrev pub IsTaken : {L : Language} {T : Type 0} → Options → Collected L T → List (List ℕ) → Type 0
IsTaken options c taken = MatchBool (workers_of options c == 0) (taken ≡ []) (Share (length (groups c.selected)) (workers_of options c) taken)

module _ {World Value Thrown Rest Source Table : Type 0} (holds : List ℕ → Source → Type 0) (profile : Profile (report_language World Value Thrown Rest) Source Table) where
  abbrev pub rows_told : Options → Collected (report_language World Value Thrown Rest) Table → List (List ℕ) → List (ReportRow (report_language World Value Thrown Rest))
  rows_told options c taken = rows_reported (profile.rules options c.table) options c taken

  -- the report of a row's item
  abbrev pub report_of : Options → Table → ReportRow (report_language World Value Thrown Rest) → ItemReport
  report_of options table r = item_report options (profile.rules options table).scope (profile.fixture table) r

  abbrev pub reports_told : Options → Collected (report_language World Value Thrown Rest) Table → List (List ℕ) → List ItemReport
  reports_told options c taken = map (report_of options c.table) (rows_told options c taken)

  abbrev pub places_told : Options → Collected (report_language World Value Thrown Rest) Table → List (List ℕ) → List Place
  places_told options c taken = filter_map (λ r. r.task.place) (rows_told options c taken)

  -- the report of a collection, by the groups that the workers took
  abbrev pub report : Options → Collected (report_language World Value Thrown Rest) Table → List (List ℕ) → PrintedAnswer
  report options c taken = (
    report_bytes options (length c.selected) c.deselected c.errors (workers_of options c) (reports_told options c taken) (places_told options c taken) (reached_maxfail (profile.rules options c.table) options c),
    status_of (length c.selected) c.errors (reports_told options c taken),
  )

  abbrev pub SaysOfCollection : Options → List (List ℕ) → Collection (report_language World Value Thrown Rest) Table → PrintedAnswer → Type 0
  SaysOfCollection options taken (Refused text) answer = (taken ≡ []) × (answer ≡ refusal text)
  SaysOfCollection options taken (ConftestFault path told) answer = (taken ≡ []) × (answer ≡ conftest_fault path told)
  SaysOfCollection options taken (Whole c) answer = IsTaken options c taken × (answer ≡ report options c taken)

  -- each file with its tree or its fault
  abbrev pub AreSources : List File → List (List ℕ × Source) → Type 0
  AreSources [] [] = Unit {0}
  AreSources (file ∷ files) (source ∷ sources) = (source.0 ≡ file.0) × holds file.1 source.1 × AreSources files sources
  AreSources files sources = ⊥

  -- the first limit that the files pass, or else what is said of what is collected
  abbrev pub SaysOfFiles : Options → List (List ℕ) → List File → PrintedAnswer → Type 0
  SaysOfFiles options taken files answer =
      MatchOption (tree_limit files)
      ((sources : List (List ℕ × Source)) × AreSources files sources × SaysOfCollection options taken (profile.collect options sources) answer)
      (λ limit. (taken ≡ []) × (answer ≡ refusal (limit_text limit)))

  -- the given files, or those that the words have generated
  abbrev pub files_for : Option (ℕ × ℕ) → List File → List File
  files_for None files = files
  files_for (Some asked) files = profile.generated asked.0 asked.1

  abbrev pub SaysOfOptions : Options → List (List ℕ) → List File → PrintedAnswer → Type 0
  SaysOfOptions options taken files answer =
      MatchOption (profile.refused options)
      (SaysOfFiles options taken (files_for options.generated files) answer)
      (λ text. (taken ≡ []) × (answer ≡ refusal text))

  -- what is said of words that ask for no text
  abbrev pub SaysOfWords : List (List ℕ) → List (List ℕ) → List File → PrintedAnswer → Type 0
  SaysOfWords taken words files answer =
      MatchResult (options_of words) (λ options. SaysOfOptions options taken files answer) (λ fault. (taken ≡ []) × (answer ≡ refusal (usage_text fault)))

  -- the report of words and files, by the groups that the workers took: a list for each worker, none where there are no workers;
  -- where words ask for a text, nothing else counts
  abbrev pub IsReportBy : List (List ℕ) → List (List ℕ) → List File → PrintedAnswer → Type 0
  IsReportBy taken words files answer =
      MatchOption (info_of words) (SaysOfWords taken words files answer) (λ info. (taken ≡ []) × (answer ≡ info_answer info))

  -- the report of words and files: with workers, that of some way to share the groups
  abbrev pub IsReport : List (List ℕ) → List File → PrintedAnswer → Type 0
  IsReport words files answer = (taken : List (List ℕ)) × IsReportBy taken words files answer

-- words that ask for no workers, or are refused
abbrev pub IsOfOneThread : List (List ℕ) → Type 0
IsOfOneThread words = MatchResult (options_of words) (λ options. asks_for_workers options ≡ false) (λ fault. Unit {0})
