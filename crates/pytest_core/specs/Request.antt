-- WHAT WORDS ASK FOR: a run, or a text that does not depend on the tree.
use Rattle.std.specs.Prelude.{◌≡◌, ℕ, ◌≤◌, Bool, true, false, List, [], Option, None, Some, Ok}
use Rattle.cli_words.specs.Info.{info_of}
use Rattle.cli_words.specs.Options.{options_of}
use Rattle.cli_words.specs.declared.fault.UsageFault.{UsageFault}
use Rattle.cli_words.specs.declared.fault.UsageFault.TheVariants as usage
use Rattle.cli_words.specs.declared.options.Options.{Options}
use Rattle.edge_io.specs.Files.{File}
use Rattle.worker_sessions.specs.collect_tree.file_source.Sources.{HoldsSource}
use Rattle.worker_sessions.specs.run_items.report_rules.Report as rules
use Rattle.selection.specs.Exprs.{AreExprs, refused_expression}
use Rattle.selection.specs.declared.fault.SelectionFault.{SelectionFault}
use Rattle.selection.specs.declared.fault.SelectionFault.TheVariants as selection
use Rattle.pytest_core.specs.Profile.{profile}
use Rattle.pytest_core.specs.Report.{IsTreeReport, OfKept}
use Rattle.pytest_core.specs.Written.{IsResponseBy}
use Rattle.pytest_core.specs.declared.request.Request.{Request}
use Rattle.pytest_core.specs.declared.request.Request.TheVariants.{Run, Said}

-- a fault of words, and not want of memory
abbrev pub is_usage_fault : UsageFault → Bool
is_usage_fault (usage.Unrecognized word) = true
is_usage_fault (usage.NeedsValue option) = true
is_usage_fault (usage.BadValue option value) = true
is_usage_fault (usage.TakesNoValue option) = true
is_usage_fault usage.Conflict = true
is_usage_fault usage.OutOfMemory = false

-- a fault of an expression, and not want of memory
abbrev pub is_expression_fault : SelectionFault → Bool
is_expression_fault (selection.Wrong flag column) = true
is_expression_fault (selection.TooDeep flag) = true
is_expression_fault selection.OutOfMemory = false

-- options ask for a run, unless they are refused
abbrev pub OptionsAsk : Options → Request → Type 0
OptionsAsk o (Run options exprs) = (options ≡ o) × AreExprs o exprs × (refused_expression o ≡ None)
OptionsAsk o (Said response) = (tree : List File) → IsResponseBy (OfKept (rules.SaysOfOptions HoldsSource profile o []) tree) (response.0.items, response.1)

-- words ask for a run, unless they ask for information or are refused
abbrev pub WordsAsk : List (List ℕ) → Request → Type 0
WordsAsk words (Run options exprs) = (info_of words ≡ None) × (options_of words ≡ Ok options) × AreExprs options exprs × (refused_expression options ≡ None)
WordsAsk words (Said response) = (tree : List File) → IsResponseBy (IsTreeReport words tree) (response.0.items, response.1)

-- the bounds of `--generated`: a seed from 0 to 65,535, and 1 to 4,000 files
abbrev pub IsInBounds : Option (ℕ × ℕ) → Type 0
IsInBounds None = Unit {0}
IsInBounds (Some asked) = (asked.0 ≤ 65535) × (1 ≤ asked.1) × (asked.1 ≤ 4000)
