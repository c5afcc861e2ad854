use Rattle.std.proofs.Common.{◌≡◌, ◌++◌, take, drop}
use Rattle.collect_words.specs.Words.{before_colons, behind_colons}
use Rattle.collect_words.proofs.cut.colons_at.Given as goal

abbrev pub invariant-loop-at : goal.invariant-loop-at
invariant-loop-at l =
    record {
      before : before_colons l.word ≡ take l.at l.word ++ before_colons (drop l.at l.word);
      behind : behind_colons l.word ≡ behind_colons (drop l.at l.word);
    }
