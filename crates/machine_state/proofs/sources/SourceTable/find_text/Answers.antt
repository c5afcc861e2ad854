use Rattle.std.proofs.Common.{◌∙◌, ap}
use Rattle.std.specs.Str.{chars}
use Rattle.core_meaning.specs.py_world.Runs.{source_at}
use Rattle.machine_state.proofs.Spelled.{source_got}
use Rattle.machine_state.proofs.sources.SourceTable.find_text.Goals as goal

pub returns : goal.returns
returns c = c.get.ensures.key ∙ source_got (chars c.args.path.now) c.self.inside.set.keys ∙ ap (source_at (chars c.args.path.now)) c.self.view_is
