use Rattle.std.proofs.Common.{◌≡◌, ◌∙◌, ◌++◌, ◌∷◌, [], List, ap, sym}
use Rattle.indexmap.specs.IndexSet.{insert_key}
use Rattle.py_core.specs.declared.stmt.Core.{Core}
use Rattle.py_values.specs.Names.{name_eq}
use Rattle.core_meaning.specs.py_world.World.{CodedSource}
use Rattle.machine_state.proofs.Spelled.{put_last}
use Rattle.machine_state.proofs.sources.SourceTable.push.Goals as goal

pub returns : goal.returns
returns c =
    c.in_ok-insert.ensures.keys ∙ ap (λ (xs : List (CodedSource Core)). insert_key (λ (a b : CodedSource Core). name_eq a.path b.path) xs c.args.source) c.self.view_is
    ∙ put_last c.args.source c.args.self.now c.requires.absent
