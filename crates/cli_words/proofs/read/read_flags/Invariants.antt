use Rattle.std.proofs.Common.{◌≡◌, length, map}
use Rattle.std.specs.Str.{IsUtf8}
use Rattle.cli_words.specs.Parts.{behind_flags, flag_part, flags}
use Rattle.cli_words.specs.Options.{with_parts}
use Rattle.cli_words.proofs.read.read_flags.Given as goal

abbrev pub invariant-loop-given : goal.invariant-loop-given
invariant-loop-given l = record {
  text : IsUtf8 l.rest;
  set : with_parts l.options (map flag_part (flags l.rest)) ≡ with_parts l.fn.options (map flag_part (flags l.letters));
  behind : behind_flags l.rest ≡ behind_flags l.letters;
}

abbrev pub decreases-loop-given : goal.decreases-loop-given
decreases-loop-given l = length l.rest
