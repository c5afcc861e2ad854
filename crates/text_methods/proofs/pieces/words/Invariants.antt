use Rattle.std.proofs.Common.{◌≡◌, ◌++◌, length}
use Rattle.std.specs.List.{filter}
use Rattle.text_methods.specs.Pieces.{cut_at_blanks, has_chars, words}
use Rattle.text_methods.proofs.Cutting.{with_open}
use Rattle.text_methods.proofs.pieces.words.Given as goal

abbrev pub invariant-loop-c : goal.invariant-loop-c
invariant-loop-c l = words l.text ≡ l.words.items ++ filter has_chars (with_open l.last.items (cut_at_blanks l.rest))

abbrev pub decreases-loop-c : goal.decreases-loop-c
decreases-loop-c l = length l.rest
