use Rattle.std.proofs.Common.{◌≡◌, length}
use Rattle.text_methods.specs.Characters.{from_word}
use Rattle.text_methods.proofs.chars.from_word.Given as goal

abbrev pub invariant-loop-c : goal.invariant-loop-c
invariant-loop-c l = from_word l.text ≡ from_word l.rest

abbrev pub decreases-loop-c : goal.decreases-loop-c
decreases-loop-c l = length l.rest
