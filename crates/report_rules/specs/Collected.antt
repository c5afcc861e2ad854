-- What is collected, and what a report asks of a language: nothing is known of what its functions do.
use Rattle.std.specs.Prelude.{ℕ, Bool, List, Option}
use Rattle.cli_words.specs.declared.options.Options.{Options}
use Rattle.edge_io.specs.Files.{File}
use Rattle.report_parts.specs.declared.report.CollectReport.{CollectReport}
use Rattle.report_parts.specs.Outcomes.{is_failed, is_raised}
use Rattle.report_parts.specs.declared.report.PhaseEnd.{PhaseEnd}
use Rattle.report_parts.specs.declared.report.Told.{Told}
use Rattle.session_rules.specs.World.{Call, Item, Language, Phase, Rules, SetUp, Teardown, language}

-- what a phase tells a report: how it ended, and what was printed in it
pub record CapturedEnd : Type 0 where
  pub end : PhaseEnd
  pub captured : List ℕ

-- a set-up or a teardown that raised is an error; a call that raised, or that passed under a strict xfail mark, is a failure
abbrev pub ends_badly : Phase → CapturedEnd → Bool
ends_badly SetUp e = is_raised e.end
ends_badly Call e = is_failed e.end
ends_badly Teardown e = is_raised e.end

-- a language whose phases tell that
abbrev pub report_language : (World Value Thrown Rest : Type 0) → Language
report_language World Value Thrown Rest = language World Value Thrown Rest CapturedEnd ends_badly

-- the names of an item: its node id, its title, and the path of its file
pub record ItemTexts : Type 0 where
  pub node_id : List ℕ
  pub title : List ℕ
  pub file : List ℕ

-- a selected item: what a session knows of it, the number of its file, its names, and for each definition the id of its parameter
pub record SelectedItem : Type 0 where
  pub item : Item
  pub file : ℕ
  pub texts : ItemTexts
  pub ids : ℕ → Option (List ℕ)

-- the name of a definition's fixture, and the names of its arguments but `request`
pub record FixtureTexts : Type 0 where
  pub name : List ℕ
  pub arguments : List (List ℕ)

-- a finished collection: its table of nodes and definitions, the world as it leaves it, the items that `-k` and `-m` accept in their
-- order, the number of the others, and the files that could not be collected
pub record Collected (L : Language) (Table : Type 0) : Type 0 where
  pub table : Table
  pub world : L.World
  pub selected : List SelectedItem
  pub deselected : ℕ
  pub errors : List CollectReport

-- how collection ends: with a usage text, with a conftest that raises, or whole
pub data Collection (L : Language) (Table : Type 0) : Type 0 where
  Refused : List ℕ → Collection L Table
  ConftestFault : List ℕ → Told → Collection L Table
  Whole : Collected L Table → Collection L Table

-- the language: what it makes of options and sources
pub record Profile (L : Language) (Source Table : Type 0) : Type 0 where
  -- the usage text of options that are refused: a wrong expression of `-k` or `-m`, or what the language doesn't offer
  pub refused : Options → Option (List ℕ)
  -- the files of `--generated`, by seed and number
  pub generated : ℕ → ℕ → List File
  -- all files loaded, in one world, and their items found and ordered: files by path, each with its tree or its fault
  pub collect : Options → List (List ℕ × Source) → Collection L Table
  -- what fixtures, hooks and tests of a table do to a world, each under the step limit of the options
  pub rules : Options → Table → Rules L
  -- the names of a definition of a table
  pub fixture : Table → ℕ → FixtureTexts
