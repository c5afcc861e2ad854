use Rattle.std.proofs.Common.{◌∙◌, List, ℕ, ap}
use Rattle.indexmap.specs.IndexMap.{insert_entry}
use Rattle.py_values.specs.Names.{name_eq}
use Rattle.core_meaning.specs.py_world.declared.load.Load.{Load}
use Rattle.machine_state.proofs.Failing.{put_loads}
use Rattle.machine_state.proofs.modules.ModuleTable.put.Goals as goal

pub returns : goal.returns
returns c =
    c.in_ok-insert.ensures.entries ∙ ap (λ (ms : List (List ℕ × Load)). insert_entry name_eq ms c.args.path c.args.load) c.self.view_is
    ∙ put_loads c.args.path c.args.load c.args.self.now
