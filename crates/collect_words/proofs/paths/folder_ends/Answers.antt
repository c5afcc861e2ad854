use Rattle.collect_words.proofs.Ranges.{places_step}
use Rattle.collect_words.specs.Paths.{ends_folder}
use Rattle.collect_words.proofs.paths.folder_ends.Goals as goal

pub loop-at-preserved : goal.loop-at-preserved
loop-at-preserved c = places_step (ends_folder c.args.path.now) c.loop-at.at _ _ c.loop-at.invariant c.in_ok-push_end.ensures
