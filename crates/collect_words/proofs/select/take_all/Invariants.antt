use Rattle.std.proofs.Common.{◌≡◌, take}
use Rattle.collect_words.specs.Files.{each_once}
use Rattle.collect_words.specs.Nodes.{item_numbers}
use Rattle.collect_words.proofs.select.take_all.Given as goal

abbrev pub invariant-loop-item : goal.invariant-loop-item
invariant-loop-item l =
    l.taken ≡ each_once l.initial.taken (item_numbers (take l.item-index l.items))
