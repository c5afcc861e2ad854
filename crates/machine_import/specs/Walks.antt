-- The beginnings of a dotted name, from a place on.
use Rattle.std.specs.Prelude.{◌≡◌, ℕ, ◌+◌, Bool, true, false, List, [], ◌∷◌, drop, Option, Some, None}
use Rattle.py_kinds.specs.Builtins.{pytest_module}
use Rattle.py_values.specs.declared.value.Value.{Value}
use Rattle.py_values.specs.declared.value.Value.TheVariants as val
use Rattle.machine_state.specs.py_world.Imports.{faulty, import_path, is_pytest, modules_at, prefixes_behind}
use Rattle.machine_state.specs.py_world.Outcome.{on_value}
use Rattle.machine_state.specs.py_world.Runs.{load_part}
use Rattle.machine_state.specs.core_meaning.Statements.{core_body}
use Rattle.machine_state.specs.declared.machine.Machine.{Machine}
use Rattle.machine_state.specs.Places.{CoreRest, CoreState, CoreThen}
use Rattle.machine_state.specs.Definings.{modules_behind}
use Rattle.machine_state.specs.Frames.{site_now, state_of}
use Rattle.machine_import.specs.declared.walk.NextModule.{NextModule}
use Rattle.machine_import.specs.declared.walk.ImportStep.{ImportStep}
use Rattle.machine_import.specs.declared.walk.ImportStep.TheVariants.{Module, Load}

abbrev pub found_by : Option (List ℕ) → ℕ → Option NextModule → Option NextModule
found_by (Some path) looked rest = Some (record { path = path; looked = looked })
found_by None looked rest = rest

-- the built-in module has no source
abbrev pub source_unless : Bool → Option (List ℕ) → Option (List ℕ)
source_unless true path = None
source_unless false path = path

abbrev pub built_in : Bool → Option Value
built_in true = Some (val.Ref pytest_module)
built_in false = None

module _ (paths : List (List ℕ)) (importer : List ℕ) where
  -- the path of the source of a dotted name
  abbrev pub source_path : List (List ℕ) → Option (List ℕ)
  source_path d = source_unless (is_pytest d) (import_path paths importer d)

  -- the first of some dotted names of which there is a source, and how many are looked for with it
  abbrev pub found_from : ℕ → List (List (List ℕ)) → Option NextModule
  found_from at [] = None
  found_from at (d ∷ ds) = found_by (source_path d) (at + 1) (found_from (at + 1) ds)

-- the module of the last of some dotted names of which there is no source: the built-in one, or none
abbrev pub last_value : List (List (List ℕ)) → Option Value → Option Value
last_value [] m = m
last_value (d ∷ ds) m = last_value ds (built_in (is_pytest d))

-- what the meaning does with the beginnings of a dotted name from a place on
abbrev pub Reaches : ImportStep → List (List ℕ) → ℕ → Option Value → Machine → Type 0
Reaches (Module v) dotted from last m = (k : CoreThen) (go : Option Value → CoreState → CoreRest)
    → modules_at core_body (drop from (prefixes_behind [] dotted)) last (site_now m) (state_of m) k go ≡ go v (state_of m)
Reaches (Load f) dotted from last m = (k : CoreThen) (go : Option Value → CoreState → CoreRest)
    → modules_at core_body (drop from (prefixes_behind [] dotted)) last (site_now m) (state_of m) k go
    ≡ load_part core_body f.path (faulty f.path) (site_now m) (state_of m) (λ o. on_value o k (λ v s. modules_behind dotted f.looked v (site_now m) s k go))
