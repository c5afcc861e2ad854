-- What is written while items run.
use Rattle.std.specs.Prelude.{◌≡◌, ◌⊎◌, ℕ, ◌≤◌, List, [], ◌++◌, length, Bool, true, false, Option, IsSomeAnd, Result, Ok, Err}
use Rattle.cli_words.specs.declared.options.Options.{Options}
use Rattle.worker_sessions.specs.collect_tree.collect_items.declared.found.FoundSuite.{FoundSuite}
use Rattle.worker_sessions.specs.collect_tree.file_source.Sources.{HoldsSource}
use Rattle.edge_io.specs.Causes.{Rose}
use Rattle.edge_io.specs.LoadFaults.{limit_of}
use Rattle.edge_io.specs.Told.{Appends, AppendsPrefix}
use Rattle.edge_io.specs.declared.files.LoadFault.{LoadFault}
use Rattle.report_parts.specs.declared.report.CollectReport.{CollectReport}
use Rattle.report_parts.specs.declared.report.ItemReport.{ItemReport}
use Rattle.report_pieces.specs.Pieces.{pieces_of}
use Rattle.report_text.specs.Progress.{progress_of}
use Rattle.report_text.specs.Summary.{summary_of}
use Rattle.report_text.specs.report_blocks.Blocks.{sections_of}
use Rattle.worker_sessions.specs.run_items.Runs.{BeginsPlan}
use Rattle.worker_sessions.specs.run_items.declared.plan.Plan.{Plan}
use Rattle.worker_sessions.specs.run_items.report_rules.Answer.{PrintedAnswer, limit_text, refusal}
use Rattle.worker_sessions.specs.run_items.report_rules.Collected.{Collected}
use Rattle.worker_sessions.specs.run_items.report_rules.Report as rules
use Rattle.worker_sessions.specs.run_items.runtest_rules.Language.{python}
use Rattle.worker_sessions.specs.run_items.source_meaning.Meaning.{SourceWorld}
use Rattle.worker_sessions.specs.run_items.test_suite.declared.suite.Suite.{Suite}
use Rattle.runtest_loop.specs.declared.run_end.RunFault as looped
use Rattle.runtest_loop.specs.declared.run_end.RunFault.TheVariants as loop
use Rattle.pytest_core.specs.Profile.{profile}
use Rattle.pytest_core.specs.Run.{IsRunAnswer, RunsFirst, chosen_first, collected_of}
use Rattle.pytest_core.specs.Status.{status_seen}
use Rattle.pytest_core.specs.Written.{WroteAll, WrotePrefix}
use Rattle.pytest_core.specs.declared.refusal.RunFault.{RunFault}
use Rattle.pytest_core.specs.declared.refusal.RunFault.TheVariants as fault
use Rattle.pytest_core.specs.declared.session.RanItems.{RanItems}
use Rattle.pytest_core.specs.declared.session.RunAnswer.{RunAnswer}
use Rattle.pytest_core.specs.declared.status.Status.{Status}
use Rattle.pytest_core.specs.declared.writer.ReportWriter.{ReportWriter}

abbrev pub times_failed : Bool → ℕ
times_failed true = 1
times_failed false = 0

-- all of a text was appended, or a prefix of it
abbrev pub Puts : Bool → Option (List ℕ) → Option (List ℕ) → List ℕ → Type 0
Puts true old new text = Appends old new text
Puts false old new text = AppendsPrefix old new text

-- what a writer is that was another, which had taken no report: it writes to the same sink, and has written the pieces of what it took;
-- with `false` it broke off in the last
pub record Stems {S : Type 0} (bytes : S → Option (List ℕ)) (faults : S → ℕ) (first : ReportWriter S) (whole : Bool) (now : ReportWriter S) : Type 0 where
  pub same_reference : now.out.ghost_name ≡ first.out.ghost_name
  pub options : now.options.now ≡ first.options.now
  pub told : Puts whole (bytes first.out.now) (bytes now.out.now) (pieces_of first.options.now [] now.reports.items)
  pub later : faults first.out.now ≤ faults now.out.now
  pub rose : now.failed ≡ true → Rose (faults first.out.now) (faults now.out.now)

-- a fault of another than the sink
abbrev pub IsNotSink : RunFault → Type 0
IsNotSink fault.Tree = Unit {0}
IsNotSink fault.Sink = ⊥
IsNotSink fault.OutOfMemory = Unit {0}

-- a fault, where no tree is at hand, behind which this is known
abbrev pub Broke : Type 0 → RunFault → Type 0
Broke Known fault.Tree = ⊥
Broke Known fault.Sink = Known
Broke Known fault.OutOfMemory = Known

-- the fault of a run, where the receiver's is the sink's
abbrev pub fault_seen : looped.RunFault → RunFault
fault_seen loop.Receiver = fault.Sink
fault_seen loop.OutOfMemory = fault.OutOfMemory

-- a text was written, with this status, or a prefix of it
abbrev pub PutBy : List ℕ → Status → Option (List ℕ) → Option (List ℕ) → Result Status RunFault → Type 0
PutBy text status old new (Ok s) = (s ≡ status) × Appends old new text
PutBy text status old new (Err fault) = Broke (AppendsPrefix old new text) fault

-- the report was written, with its status, or a prefix of it
abbrev pub WroteBy : (PrintedAnswer → Type 0) → Option (List ℕ) → Option (List ℕ) → Result Status RunFault → Type 0
WroteBy report old new (Ok status) = WroteAll report old new status
WroteBy report old new (Err fault.Tree) = new ≡ old
WroteBy report old new (Err fault.Sink) = WrotePrefix report old new
WroteBy report old new (Err fault.OutOfMemory) = WrotePrefix report old new

-- THE RUN of the items of the first group by a plan, whose progress was written
pub record StreamsFirst (plan : Plan) (options : Options) (groups : List (List ℕ)) (w : SourceWorld) (old new : Option (List ℕ)) (ran : RanItems) : Type 0 where
  pub is : RunsFirst plan options groups w ran.reports.items ran.stopped
  pub told : Appends old new (pieces_of options [] ran.reports.items)

-- and where it broke off, that of its first reports, or a prefix
pub record BreaksFirst (plan : Plan) (options : Options) (groups : List (List ℕ)) (w : SourceWorld) (old new : Option (List ℕ)) : Type 0 where
  pub taken : List ItemReport
  pub begun : BeginsPlan plan options (chosen_first plan groups) w [] taken
  pub told : AppendsPrefix old new (pieces_of options [] taken)

-- the run of all selected items, whose progress was written
pub record StreamedAll (options : Options) (found : FoundSuite) (numbers : List ℕ) (errors : List CollectReport) (w : SourceWorld) (old new : Option (List ℕ)) (ran : RanItems) : Type 0 where
  pub is : IsRunAnswer options found numbers errors w ran.reports.items ran.stopped
  pub told : Appends old new (pieces_of options [] ran.reports.items)

-- THE ANSWER of a run, and what is written of its progress
pub record RanTo (options : Options) (found : FoundSuite) (numbers : List ℕ) (errors : List CollectReport) (w : SourceWorld) (old new : Option (List ℕ)) (answer : RunAnswer) : Type 0 where
  pub is : IsRunAnswer options found numbers errors w answer.reports.items answer.stopped
  pub front : List ℕ
  pub told : Appends old new front
  pub whole : progress_of options answer.reports.items [] ≡ front ++ answer.left.items

-- where it broke off
abbrev pub BreaksIn : Options → FoundSuite → List ℕ → List CollectReport → SourceWorld → Option (List ℕ) → Option (List ℕ) → Type 0
BreaksIn options found numbers errors w old new =
    (places : List ℕ) (deselected : ℕ) → AppendsPrefix old new (progress_of options (rules.reports_told HoldsSource profile options (collected_of found places numbers deselected errors w) []) [])

-- what stands behind what is written of the progress
abbrev pub rest_of : Options → ℕ → ℕ → List CollectReport → List ℕ → List ItemReport → Bool → List ℕ
rest_of options selected deselected errors left reports stopped =
    (left ++ sections_of options.tb errors reports) ++ summary_of options errors reports selected deselected stopped

-- the answer for items that do not run: all of the progress is left
pub record ListedTo (options : Options) (found : FoundSuite) (numbers : List ℕ) (errors : List CollectReport) (w : SourceWorld) (answer : RunAnswer) : Type 0 where
  pub is : IsRunAnswer options found numbers errors w answer.reports.items answer.stopped
  pub whole : progress_of options answer.reports.items [] ≡ answer.left.items

-- what the report has behind its head
abbrev pub body_of : Options → Collected python Suite → List ℕ
body_of options c =
    (progress_of options (rules.reports_told HoldsSource profile options c []) []
    ++ sections_of options.tb c.errors (rules.reports_told HoldsSource profile options c []))
    ++ summary_of options c.errors (rules.reports_told HoldsSource profile options c []) (length c.selected) c.deselected (rules.reached_maxfail (profile.rules options c.table) options c)

-- it was written, with the report's status, wherever the files are in the walk
abbrev pub PutRun : Options → FoundSuite → List ℕ → ℕ → List CollectReport → SourceWorld → Option (List ℕ) → Option (List ℕ) → Result Status RunFault → Type 0
PutRun options found numbers deselected errors w old new result =
    (places : List ℕ) → PutBy (body_of options (collected_of found places numbers deselected errors w)) (status_seen (rules.report HoldsSource profile options (collected_of found places numbers deselected errors w) []).1) old new result

-- what was written of a tree that passes a limit
abbrev pub LimitPut : LoadFault → Option (List ℕ) → Option (List ℕ) → Result Status RunFault → Type 0
LimitPut load old new (Ok status) = IsSomeAnd (limit_of load) (λ limit. PutBy (refusal (limit_text limit)).0 (status_seen (refusal (limit_text limit)).1) old new (Ok status))
LimitPut load old new (Err fault.Tree) = new ≡ old
LimitPut load old new (Err fault.Sink) = IsSomeAnd (limit_of load) (λ limit. AppendsPrefix old new (refusal (limit_text limit)).0)
LimitPut load old new (Err fault.OutOfMemory) = (new ≡ old) ⊎ IsSomeAnd (limit_of load) (λ limit. AppendsPrefix old new (refusal (limit_text limit)).0)
