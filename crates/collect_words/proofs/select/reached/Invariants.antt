use Rattle.std.proofs.Common.{◌≡◌, [], take}
use Rattle.std.specs.List.{flat_map}
use Rattle.collect_words.specs.Files.{each_once}
use Rattle.collect_words.specs.Nodes.{item_numbers, items_named}
use Rattle.collect_words.proofs.select.reached.Given as goal

abbrev pub invariant-loop-word : goal.invariant-loop-word
invariant-loop-word l =
    l.taken ≡ each_once [] (flat_map (λ word. item_numbers (items_named l.walk l.tests l.files word.named)) (take l.word-index l.words))
