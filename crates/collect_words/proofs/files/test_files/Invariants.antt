use Rattle.std.proofs.Common.{◌≡◌, [], take}
use Rattle.std.specs.List.{flat_map}
use Rattle.collect_words.specs.Files.{each_once, files_named}
use Rattle.collect_words.proofs.files.test_files.Given as goal

abbrev pub invariant-loop-word : goal.invariant-loop-word
invariant-loop-word l =
    l.taken ≡ each_once [] (flat_map (λ word. files_named l.walk l.tests word.named) (take l.word-index l.words))
