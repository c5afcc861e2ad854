use Rattle.std.proofs.Common.{◌<◌, length, get_or, arith}
use Rattle.std.proofs.lemmas.Str.{IsCharBoundary-after_ascii}
use Rattle.cli_words.proofs.read.first_letter.Goals as goal

pub range_from-requires : goal.range_from-requires
range_from-requires c = λ some.
    let long : 0 < length c.args.letters.now = rw (← c.as_bytes.ensures.value) (omega (arith, c.in-len1-up.len_at_least)) in
    let small : get_or c.args.letters.now 0 0 < 128 = rw (← c.as_bytes.ensures.value) c.if-letter-lt128.true in
    IsCharBoundary-after_ascii c.args.letters.now 0 c.utf8.letters long small
