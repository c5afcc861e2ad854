use Rattle.std.proofs.Common.{◌≡◌, length, map}
use Rattle.std.specs.Prelude.{string_bytes}
use Rattle.cli_words.specs.Parts.{command_parts}
use Rattle.cli_words.specs.Options.{options_or_fault}
use Rattle.cli_words.proofs.read.read_all.Given as goal

abbrev pub invariant-loop-word : goal.invariant-loop-word
invariant-loop-word l = options_or_fault l.fn.options (command_parts (map string_bytes l.words)) ≡ options_or_fault l.options (command_parts (map string_bytes l.rest))

abbrev pub decreases-loop-word : goal.decreases-loop-word
decreases-loop-word l = length l.rest
