-- THE SOURCES OF A WORLD, from what its files say.
use Rattle.std.specs.Prelude.{◌≡◌, ℕ, List, [], ◌∷◌, ◌++◌, map, Bool, ◌||◌, bytes_eq, Result, Ok, Err, chars}
use Rattle.std.specs.List.{list_any}
use Rattle.collect_words.specs.Paths.{is_test_file, is_conftest}
use Rattle.edge_io.specs.Files.{File}
use Rattle.file_source.specs.Sources.{IsSource}
use Rattle.py_source.specs.declared.fault.SourceFault.{SourceFault}
use Rattle.py_tree.specs.Statements.{Block}
use Rattle.py_world.specs.World.{CodedSource, CodeOrFault, Code, Fault}
use Rattle.assert_rewrite.specs.source_meaning.Requests.{Script}
use Rattle.assert_rewrite.specs.source_meaning.Statements.{script}
use Rattle.assert_rewrite.specs.source_meaning.Meaning.{SourceWorld}
use Rattle.py_load.specs.Reading.{ReadFile, AreRead}

-- WHETHER A FILE'S ASSERTS ARE EXPLAINED (pytest, assertion rewriting): those of test files, of conftests and of files that a word
-- names; what these import is left as it is
abbrev pub is_explained : List (List ℕ) → List ℕ → Bool
is_explained named path = is_test_file path || (is_conftest path || list_any (bytes_eq path) named)

-- the code of a tree, whose asserts are explained or show nothing beside their messages, or the fault
abbrev pub code_said : Bool → Result Block SourceFault → CodeOrFault Script
code_said explains (Ok block) = Code (script explains block)
code_said explains (Err fault) = Fault fault

abbrev pub source_as : Bool → List ℕ → List ℕ → Result Block SourceFault → CodedSource Script
source_as explains path bytes said = record { path = chars path; bytes = bytes; code = code_said explains said }

-- named: the paths of files that a word names
abbrev pub source_of_read : List (List ℕ) → ReadFile → CodedSource Script
source_of_read named r = source_as (is_explained named r.0) r.0 r.1.0 r.1.1

-- a world with these sources behind its own
abbrev pub with_sources : List (CodedSource Script) → SourceWorld → SourceWorld
with_sources more w = record { sources = w.sources ++ more; modules = w.modules; heap = w.heap; codes = w.codes; printed = w.printed; frozen = w.frozen; traces = w.traces }

abbrev pub with_reads : List (List ℕ) → List ReadFile → SourceWorld → SourceWorld
with_reads named reads w = with_sources (map (source_of_read named) reads) w

-- HOW A WORLD IS PREPARED for files: it has the source of each of them, in their order, behind its own
pub record IsPrepared (named : List (List ℕ)) (files : List File) (old new : SourceWorld) : Type 0 where
  pub reads : List ReadFile
  pub read : AreRead files reads
  pub world : new ≡ with_reads named reads old

-- one file more
pub record IsFileAdded (explains : Bool) (path bytes : List ℕ) (old new : SourceWorld) : Type 0 where
  pub said : Result Block SourceFault
  pub source : IsSource bytes said
  pub world : new ≡ with_sources (source_as explains path bytes said ∷ []) old
