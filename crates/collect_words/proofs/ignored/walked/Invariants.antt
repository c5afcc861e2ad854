use Rattle.std.proofs.Common.{◌≡◌}
use Rattle.std.specs.List.{filter, range_with_len}
use Rattle.collect_words.specs.Walks.{path_at}
use Rattle.collect_words.specs.Files.{is_walked}
use Rattle.collect_words.proofs.ignored.walked.Given as goal

abbrev pub invariant-loop-place : goal.invariant-loop-place
invariant-loop-place l =
    l.places ≡ filter (λ place. is_walked l.ignore (path_at l.walk place)) (range_with_len 0 l.place)
