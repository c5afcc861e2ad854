-- Loads that fail one after another.
use Rattle.std.specs.Prelude.{Bool, ℕ, zero, suc, List, [], ◌∷◌}
use Rattle.py_values.specs.declared.value.Value.{Value}
use Rattle.core_meaning.specs.py_world.declared.load.Load.{Load}
use Rattle.core_meaning.specs.py_world.declared.trace.TraceFrame.{TraceFrame}
use Rattle.core_meaning.specs.py_world.Runs.{failed, is_running}

-- the modules, of which the one at a place has failed, where its load was running
abbrev pub failed_at : Value → List TraceFrame → ℕ → List (List ℕ × Load) → List (List ℕ × Load)
failed_at exc trace at [] = []
failed_at exc trace zero (m ∷ ms) = failed exc trace m ∷ ms
failed_at exc trace (suc at) (m ∷ ms) = m ∷ failed_at exc trace at ms

-- whether a load is running
abbrev pub load_runs : Load → Bool
load_runs load = is_running ([], load)
