-- HOW FILES ARE LOADED: conftests first, then the test files (pytest's reference, "conftest.py files"). An exception is told in the
-- world right behind the load that it ended.
use Rattle.std.specs.Prelude.{ℕ, List, [], ◌∷◌, ◌++◌, Option, Some, None, Ok, Err, chars, codes}
use Rattle.std.specs.Str.Lossy.{utf8_lossy}
use Rattle.collect_words.specs.Walks.{path_at}
use Rattle.collection_nodes.specs.declared.test_file.TestFile.{TestFile}
use Rattle.py_load.specs.InTurn.{FileEnd, file_load}
use Rattle.py_load.specs.declared.error.LoadError.{LoadError}
use Rattle.py_load.specs.declared.error.LoadError.TheVariants.{Syntax, NotUtf8, Raised, Exhausted, OutOfMemory}
use Rattle.py_source.specs.Faults.{source_line}
use Rattle.py_source.specs.declared.fault.SourceFault.{SourceFault}
use Rattle.py_source.specs.declared.fault.SourceFault.TheVariants as fault
use Rattle.py_values.specs.declared.value.Value.{Value}
use Rattle.py_world.specs.Site.{frame}
use Rattle.report_parts.specs.declared.report.CollectReport.{CollectReport}
use Rattle.report_parts.specs.declared.report.Told.{Told}
use Rattle.fixture_world.specs.tracebacks.source_meaning.Meaning.{SourceWorld}
use Rattle.fixture_world.specs.tracebacks.Faults.{fault_text}
use Rattle.fixture_world.specs.tracebacks.Frames.{told}
use Rattle.fixture_world.specs.tracebacks.Texts.{exception_text, limit_text}
use Rattle.collect_tree.specs.declared.loads.LoadEnd.{LoadEnd}

-- a source's fault, at its place in the module
abbrev pub fault_here : List ℕ → SourceFault → SourceWorld → Told
fault_here path f w = told w.sources (frame (chars path) (source_line f) (codes "<module>") ∷ []) (fault_text f)

-- what is told of a load that gave no module
abbrev pub load_told : ℕ → List ℕ → LoadError → SourceWorld → Told
load_told limit path (Syntax at kind) w = fault_here path (fault.Syntax at kind) w
load_told limit path (NotUtf8 line) w = fault_here path (fault.NotUtf8 line) w
load_told limit path (Raised thrown) w = told w.sources thrown.trace (exception_text w.heap thrown.exc)
load_told limit path (Exhausted trace) w = told w.sources trace (limit_text limit)
load_told limit path OutOfMemory w = told w.sources [] (codes "out of memory")

-- the error of collection that it is, with what was printed meanwhile
abbrev pub collect_error : ℕ → List ℕ → LoadError → List ℕ → SourceWorld → CollectReport
collect_error limit path error printed w = record { file = path; told = load_told limit path error w; captured = utf8_lossy printed }

-- test files behind their loads: with their modules, where they have them, how each load has ended, and the world
pub record LoadResults : Type 0 where
  pub files : List TestFile
  pub ends : List LoadEnd
  pub world : SourceWorld

abbrev pub test_file : ℕ → Option Value → TestFile
test_file place v = record { place = place; object = v }

-- the error of a load, where it has failed, and what was printed in it
abbrev pub load_end : Option CollectReport → List ℕ → LoadEnd
load_end error printed = record { error = error; captured = utf8_lossy printed }

-- one more, before the others
abbrev pub loaded_before : List TestFile → List LoadEnd → LoadResults → LoadResults
loaded_before files ends rest = record { files = files ++ rest.files; ends = ends ++ rest.ends; world = rest.world }

abbrev pub ended_before : ℕ → List ℕ → ℕ → FileEnd → SourceWorld → LoadResults → LoadResults
ended_before limit path place (Ok v, printed) w rest = loaded_before (test_file place (Some v) ∷ []) (load_end None printed ∷ []) rest
ended_before limit path place (Err error, printed) w rest =
    loaded_before (test_file place None ∷ []) (load_end (Some (collect_error limit path error printed w)) printed ∷ []) rest

-- TEST FILES ARE LOADED IN TURN, by their places in the walk
abbrev pub test_loads : ℕ → List (List ℕ) → List ℕ → SourceWorld → LoadResults
test_loads limit walk [] w = record { files = []; ends = []; world = w }
test_loads limit walk (place ∷ places) w =
    let path = path_at walk place in
    let x = file_load limit path w in
    ended_before limit path place x.0 x.1 (test_loads limit walk places x.1)
