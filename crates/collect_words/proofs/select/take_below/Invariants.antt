use Rattle.std.proofs.Common.{◌≡◌, take}
use Rattle.std.specs.List.{filter, flat_map}
use Rattle.collect_words.specs.Paths.{is_below}
use Rattle.collect_words.specs.Walks.{path_at}
use Rattle.collect_words.specs.Files.{each_once}
use Rattle.collect_words.specs.Nodes.{item_numbers, items_of}
use Rattle.collect_words.proofs.select.take_below.Given as goal

abbrev pub invariant-loop-place : goal.invariant-loop-place
invariant-loop-place l =
    l.taken ≡ each_once l.initial.taken (item_numbers (flat_map (items_of l.files) (filter (λ place. is_below l.folder (path_at l.walk place)) (take l.place-index l.tests))))
