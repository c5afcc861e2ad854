use Rattle.collect_words.proofs.Ranges.{places_step}
use Rattle.collect_words.specs.Walks.{path_at}
use Rattle.collect_words.specs.Files.{is_walked}
use Rattle.collect_words.proofs.ignored.walked.Goals as goal

pub loop-place-preserved : goal.loop-place-preserved
loop-place-preserved c = places_step (λ place. is_walked c.args.ignore.now (path_at c.args.walk.now place)) c.loop-place.place _ _ c.loop-place.invariant c.in_ok-push_walked.ensures
