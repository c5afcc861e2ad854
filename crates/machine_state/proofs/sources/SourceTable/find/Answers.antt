use Rattle.std.proofs.Common.{◌∙◌, ap}
use Rattle.core_meaning.specs.py_world.Runs.{source_at}
use Rattle.machine_state.proofs.Spelled.{source_got}
use Rattle.machine_state.proofs.sources.SourceTable.find.Goals as goal

pub returns : goal.returns
returns c = c.get.ensures.key ∙ source_got c.args.path.now c.self.inside.set.keys ∙ ap (source_at c.args.path.now) c.self.view_is
