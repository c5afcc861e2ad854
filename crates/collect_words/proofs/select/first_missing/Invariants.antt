use Rattle.std.proofs.Common.{◌≡◌, drop}
use Rattle.std.specs.Prelude.{not}
use Rattle.std.specs.List.{find}
use Rattle.collect_words.specs.Nodes.{is_found}
use Rattle.collect_words.proofs.select.first_missing.Given as goal

abbrev pub invariant-loop-word : goal.invariant-loop-word
invariant-loop-word l =
    find (λ word. not (is_found l.files word.named)) l.words ≡ find (λ word. not (is_found l.files word.named)) (drop l.word-index l.words)
