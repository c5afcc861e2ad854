use Rattle.std.proofs.Common.{ap, ◌∙◌}
use Rattle.collect_tree.specs.Walk.{walk_of}
use Rattle.collect_tree.proofs.walk.walk_of_files.Goals as goal

pub returns : goal.returns
returns c = c.one_walk.ensures _ _ _ c.in_ok-walk.ensures (c.is_walk.ensures _) ∙ ap walk_of (c.deref.ensures.value ∙ c.in_ok-paths.ensures)
