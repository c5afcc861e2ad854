use Rattle.std.proofs.Common.{◌≡◌, [], take}
use Rattle.std.specs.List.{flat_map}
use Rattle.collect_words.specs.Walks.{path_at}
use Rattle.collect_words.specs.Files.{each_once, conftests_above}
use Rattle.collect_words.proofs.above.conftests.Given as goal

abbrev pub invariant-loop-place : goal.invariant-loop-place
invariant-loop-place l =
    l.taken ≡ each_once [] (flat_map (λ place. conftests_above l.walk (path_at l.walk place)) (take l.place-index l.files))
