use Rattle.std.proofs.Common.{◌≡◌, take}
use Rattle.std.specs.List.{filter}
use Rattle.collect_words.specs.Files.{each_once}
use Rattle.collect_words.specs.Nodes.{item_numbers, is_named}
use Rattle.collect_words.proofs.select.take_named.Given as goal

abbrev pub invariant-loop-item : goal.invariant-loop-item
invariant-loop-item l =
    l.taken ≡ each_once l.initial.taken (item_numbers (filter (is_named l.part) (take l.item-index l.items)))
