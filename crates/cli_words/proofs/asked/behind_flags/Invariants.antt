use Rattle.std.proofs.Common.{◌≡◌, length}
use Rattle.std.specs.Str.{IsUtf8}
use Rattle.cli_words.specs.Parts.{behind_flags}
use Rattle.cli_words.proofs.asked.behind_flags.Given as goal

abbrev pub invariant-loop-behind : goal.invariant-loop-behind
invariant-loop-behind l = record {
  text : IsUtf8 l.rest;
  behind : behind_flags l.rest ≡ behind_flags l.letters;
}

abbrev pub decreases-loop-behind : goal.decreases-loop-behind
decreases-loop-behind l = length l.rest
