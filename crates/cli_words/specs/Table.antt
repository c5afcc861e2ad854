-- The options of the command line: pytest's reference, "Command-line Flags", and pytest-xdist's `-n` and `--dist`.
use Rattle.std.specs.Prelude.{ℕ, List, [], ◌∷◌, Option, None, Some, codes, if◌then◌else◌}
use Rattle.std.specs.Str.{bytes_eq}
use Rattle.std.specs.Map.{lookup}
use Rattle.cli_words.specs.declared.table.Row.{Row}
use Rattle.cli_words.specs.declared.table.OptionKind.{OptionKind}
use Rattle.cli_words.specs.declared.table.OptionKind.TheVariants.{Nothing, Value, Tells}
use Rattle.cli_words.specs.declared.table.FlagAction.TheVariants.{On, Count}
use Rattle.cli_words.specs.declared.table.Rule.TheVariants.{Text, Number, Style, Distribution, SeedAndFiles}
use Rattle.cli_words.specs.declared.info.Info.TheVariants.{Help, Version}
use Rattle.cli_words.specs.declared.table.Switch.TheVariants.{Verbose, CollectOnly, SetupShow}
use Rattle.cli_words.specs.declared.table.Counter.TheVariants.{MaxFail, Workers, StepLimit}
use Rattle.cli_words.specs.declared.table.TextOption.TheVariants.{Keyword, Marks, Ignore}

-- each spelling of an option, and what the option takes
abbrev pub options : List (List ℕ × OptionKind)
options =
    (codes "-k", Value (Text Keyword))
    ∷ (codes "-m", Value (Text Marks))
    ∷ (codes "-x", Nothing (Count MaxFail 1))
    ∷ (codes "--exitfirst", Nothing (Count MaxFail 1))
    ∷ (codes "--maxfail", Value (Number MaxFail 0 65536))
    ∷ (codes "--tb", Value Style)
    ∷ (codes "-n", Value (Number Workers 0 8))
    ∷ (codes "--numprocesses", Value (Number Workers 0 8))
    ∷ (codes "--dist", Value Distribution)
    ∷ (codes "--ignore", Value (Text Ignore))
    ∷ (codes "-v", Nothing (On Verbose))
    ∷ (codes "--verbose", Nothing (On Verbose))
    ∷ (codes "--collect-only", Nothing (On CollectOnly))
    ∷ (codes "--co", Nothing (On CollectOnly))
    ∷ (codes "--setup-show", Nothing (On SetupShow))
    ∷ (codes "--step-limit", Value (Number StepLimit 1 100000000))
    ∷ (codes "--generated", Value SeedAndFiles)
    ∷ (codes "--help", Tells Help)
    ∷ (codes "--version", Tells Version)
    ∷ []

-- what the option of this spelling takes
unfoldable pub takes_named : List ℕ → Option OptionKind
takes_named spelling = lookup (λ s. bytes_eq s spelling) options

-- what the first row of this spelling takes
abbrev pub takes_in : List ℕ → List Row → Option OptionKind
takes_in spelling [] = None
takes_in spelling (row ∷ rows) = if bytes_eq row.spelling.now spelling then Some row.takes else takes_in spelling rows
