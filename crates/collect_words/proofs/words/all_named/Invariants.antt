use Rattle.std.proofs.Common.{◌≡◌, take, drop}
use Rattle.collect_words.specs.Words as words
use Rattle.collect_words.proofs.words.all_named.Given as goal

abbrev pub invariant-loop-word : goal.invariant-loop-word
invariant-loop-word l =
    record {
      named : l.names ≡ words.all_named l.walk (take l.word-index l.words);
      none : words.first_unnamed l.walk l.words ≡ words.first_unnamed l.walk (drop l.word-index l.words);
    }
