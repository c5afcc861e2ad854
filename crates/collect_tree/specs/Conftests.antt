-- CONFTESTS ARE LOADED ONE AFTER ANOTHER, each with a step limit of its own, in the world that the one before left, and the hooks of each are
-- read right behind its load (pytest's reference, "conftest.py files"), up to the first that fails.
use Rattle.std.specs.Prelude.{ℕ, List, [], ◌∷◌, ◌++◌, Some, Result, Ok, Err, codes}
use Rattle.collection_nodes.specs.Tree.{names_of_file}
use Rattle.conftest_hooks.specs.Reading.{conftest_folder, hooks_among}
use Rattle.conftest_hooks.specs.declared.looking.FoundHook.{FoundHook}
use Rattle.conftest_hooks.specs.declared.looking.HookFault.{HookFault}
use Rattle.py_load.specs.InTurn.{FileEnd, file_load}
use Rattle.py_values.specs.declared.value.Value.{Value}
use Rattle.report_parts.specs.declared.report.Told.{Told}
use Rattle.fixture_world.specs.tracebacks.source_meaning.Meaning.{SourceWorld}
use Rattle.fixture_world.specs.tracebacks.Frames.{told}
use Rattle.collect_tree.specs.Loads.{load_told, test_file}

-- the modules of conftests, and their hooks, in order of loading
pub record ConftestsFound : Type 0 where
  pub modules : List Value
  pub hooks : List FoundHook

abbrev pub conftests_found : List Value → List FoundHook → ConftestsFound
conftests_found modules hooks = record { modules = modules; hooks = hooks }

-- all of them, or the path of the first that fails, with what is told of it
abbrev pub ConftestsLoaded : Type 0
ConftestsLoaded = Result ConftestsFound (List ℕ × Told)

-- a fault of a hook is a `ValueError`, at the function's `def`
abbrev pub hook_fault_told : HookFault → SourceWorld → Told
hook_fault_told fault w = told w.sources (fault.defined ∷ []) (codes "ValueError: " ++ fault.text)

-- the hooks among the names of a conftest's module
abbrev pub hooks_of_module : List ℕ → Value → SourceWorld → Result (List FoundHook) HookFault
hooks_of_module path v w = hooks_among w.heap (conftest_folder path) (names_of_file w.heap (test_file 0 (Some v)))

abbrev pub found_before : Value → List FoundHook → ConftestsLoaded × SourceWorld → ConftestsLoaded × SourceWorld
found_before v hooks (Ok found, w) = (Ok (conftests_found (v ∷ found.modules) (hooks ++ found.hooks)), w)
found_before v hooks (Err failed, w) = (Err failed, w)

abbrev pub behind_hooks : List ℕ → Value → Result (List FoundHook) HookFault → ConftestsLoaded × SourceWorld → SourceWorld → ConftestsLoaded × SourceWorld
behind_hooks path v (Ok hooks) rest w = found_before v hooks rest
behind_hooks path v (Err fault) rest w = (Err (path, hook_fault_told fault w), w)

abbrev pub behind_load : ℕ → List ℕ → FileEnd → ConftestsLoaded × SourceWorld → SourceWorld → ConftestsLoaded × SourceWorld
behind_load limit path (Ok v, printed) rest w = behind_hooks path v (hooks_of_module path v w) rest w
behind_load limit path (Err error, printed) rest w = (Err (path, load_told limit path error w), w)

abbrev pub conftests_loaded : ℕ → List (List ℕ) → SourceWorld → ConftestsLoaded × SourceWorld
conftests_loaded limit [] w = (Ok (conftests_found [] []), w)
conftests_loaded limit (path ∷ paths) w = let x = file_load limit path w in behind_load limit path x.0 (conftests_loaded limit paths x.1) x.1
