use Rattle.std.proofs.Common.{◌≡◌}
use Rattle.std.specs.List.{filter, range_with_len}
use Rattle.collect_words.specs.Paths.{ends_folder}
use Rattle.collect_words.proofs.paths.folder_ends.Given as goal

abbrev pub invariant-loop-at : goal.invariant-loop-at
invariant-loop-at l =
    l.ends.items ≡ filter (ends_folder l.path) (range_with_len 0 l.at)
