use Rattle.std.proofs.Common.{◌≡◌, map, take}
use Rattle.std.specs.Prelude.{string_bytes}
use Rattle.cli_words.specs.Parts.{PathOf}
use Rattle.cli_words.specs.Options.{with_parts}
use Rattle.cli_words.proofs.read.read_paths.Given as goal

abbrev pub invariant-loop-word : goal.invariant-loop-word
invariant-loop-word l = l.options ≡ with_parts l.fn.options (map PathOf (map string_bytes (take l.word-index l.words)))
