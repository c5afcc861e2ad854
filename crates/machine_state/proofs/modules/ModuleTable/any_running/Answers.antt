use Rattle.std.proofs.Common.{◌∙◌, List, ℕ, ap}
use Rattle.std.specs.List.{list_any}
use Rattle.core_meaning.specs.py_world.Runs.{is_running}
use Rattle.machine_state.specs.Failing.{load_runs}
use Rattle.machine_state.proofs.Failing.{any_runs}
use Rattle.machine_state.proofs.modules.ModuleTable.any_running.Goals as goal

pub returns : goal.returns
returns c =
    c.any_runs.ensures ∙ ap (list_any load_runs) (c.as_slice.ensures ∙ c.values.ensures.rest) ∙ any_runs c.self.inside.map.entries ∙ ap (list_any is_running) c.self.view_is
