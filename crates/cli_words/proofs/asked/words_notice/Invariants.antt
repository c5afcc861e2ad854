use Rattle.std.proofs.Common.{◌≡◌, length, map}
use Rattle.std.specs.Prelude.{string_bytes}
use Rattle.cli_words.specs.Info.{first_notice}
use Rattle.cli_words.specs.Parts.{command_parts}
use Rattle.cli_words.proofs.asked.words_notice.Given as goal

abbrev pub invariant-loop-word : goal.invariant-loop-word
invariant-loop-word l = first_notice (command_parts (map string_bytes l.words)) ≡ first_notice (command_parts (map string_bytes l.rest))

abbrev pub decreases-loop-word : goal.decreases-loop-word
decreases-loop-word l = length l.rest
