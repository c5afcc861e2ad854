-- THE REPORT OF WORDS AND FILES.
use Rattle.std.specs.Prelude.{◌≡◌, ℕ, List, Option, None, Some, Ok, map}
use Rattle.cli_words.specs.Info.{info_of}
use Rattle.cli_words.specs.Options.{options_of}
use Rattle.cli_words.specs.declared.options.Options.{Options}
use Rattle.edge_io.specs.Files.{File, IsKept}
use Rattle.worker_sessions.specs.collect_tree.file_source.Sources.{HoldsSource}
use Rattle.worker_sessions.specs.run_items.report_rules.Answer.{PrintedAnswer, conftest_fault, refusal}
use Rattle.worker_sessions.specs.run_items.report_rules.Collected.{Collected, Collection, ConftestFault, Refused, Whole}
use Rattle.worker_sessions.specs.run_items.report_rules.Fits.{chosen_item}
use Rattle.worker_sessions.specs.run_items.report_rules.Report as rules
use Rattle.worker_sessions.specs.run_items.runtest_rules.Language.{python}
use Rattle.selection.specs.Exprs.{refused_expression}
use Rattle.session_rules.specs.Fits.{Distinct}
use Rattle.worker_sessions.specs.run_items.test_suite.declared.suite.Suite.{Suite}
use Rattle.pytest_core.specs.Profile.{profile}

-- what is said of a tree: that of its kept files, in the order of their paths
abbrev pub OfKept : (List File → PrintedAnswer → Type 0) → List File → PrintedAnswer → Type 0
OfKept Says tree answer = (files : List File) × IsKept tree files × Says files answer

-- THE REPORT of words over a tree
abbrev pub IsTreeReport : List (List ℕ) → List File → PrintedAnswer → Type 0
IsTreeReport words tree answer = OfKept (rules.IsReport HoldsSource profile words) tree answer

-- what is said where collection ended without items
abbrev pub end_answer : Collection python Suite → Option PrintedAnswer
end_answer (Refused text) = Some (refusal text)
end_answer (ConftestFault path told) = Some (conftest_fault path told)
end_answer (Whole c) = None

-- no two selected items are one
abbrev pub AreDistinct : Collected python Suite → Type 0
AreDistinct c = Distinct (map chosen_item c.selected)

-- the report of what was collected, by some way to share the groups among workers
abbrev pub IsReportOf : Options → Collected python Suite → PrintedAnswer → Type 0
IsReportOf options c answer = (taken : List (List ℕ)) × rules.IsTaken options c taken × (answer ≡ rules.report HoldsSource profile options c taken)

-- what is said of files, and of options, by such a way
abbrev pub FilesSay : Options → List File → PrintedAnswer → Type 0
FilesSay options files answer = (taken : List (List ℕ)) × rules.SaysOfFiles HoldsSource profile options taken files answer

abbrev pub OptionsSay : Options → List File → PrintedAnswer → Type 0
OptionsSay options files answer = (taken : List (List ℕ)) × rules.SaysOfOptions HoldsSource profile options taken files answer

-- words that ask for a run: they ask for no information, and are not refused
pub record AskForRun (words : List (List ℕ)) : Type 0 where
  pub options : Options
  pub no_info : info_of words ≡ None
  pub read : options_of words ≡ Ok options
  pub accepted : refused_expression options ≡ None
