use Rattle.std.proofs.Common.{◌≡◌, take}
use Rattle.collect_words.specs.Files.{named_files}
use Rattle.collect_words.proofs.files.named_files.Given as goal

abbrev pub invariant-loop-word : goal.invariant-loop-word
invariant-loop-word l =
    l.places ≡ named_files (take l.word-index l.words)
