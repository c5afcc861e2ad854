use Rattle.std.proofs.Common.{map, ap, ◌∙◌}
use Rattle.std.specs.Prelude.{string_bytes}
use Rattle.std.specs.Option.{option_copied}
use Rattle.std.proofs.lemmas.List.{nil_from_length}
use Rattle.cli_words.proofs.Cut.{map-left}
use Rattle.cli_words.proofs.Notices.{at_end, at_nothing, at_notice, at_word}
use Rattle.cli_words.proofs.asked.words_notice.Goals as goal

pub returns-then-eq : goal.returns-then-eq
returns-then-eq c =
    at_end _ (map string_bytes c.loop-word.rest.now) (map string_bytes c.in-Some.behind.now) (string_bytes c.in-Some.word.now) c.loop-word.invariant (ap (map string_bytes) c.in-Some.ensures.cases.0) (rw c.as_str.ensures.value at c.if-eq.ensures)

pub returns-then-is_some : goal.returns-then-is_some
returns-then-is_some c =
    at_notice _ c.word_notice-notice.result.0 (map string_bytes c.loop-word.rest.now) (map string_bytes c.in-Some.behind.now) (string_bytes c.in-Some.word.now) (option_copied c.first_word.result) c.loop-word.invariant (ap (map string_bytes) c.in-Some.ensures.cases.0) (rw c.as_str.ensures.value at c.if-eq.ensures) c.first_word.ensures (rw c.as_str-in-Some.ensures.value at c.word_notice-notice.ensures.told) c.if-is_some.ensures

pub loop-word-preserved : goal.loop-word-preserved
loop-word-preserved c =
    at_word _ c.word_notice-notice.result.0 (map string_bytes c.loop-word.rest.now) (map string_bytes c.in-Some.behind.now) (map string_bytes c.words_left-rest.result.now) (string_bytes c.in-Some.word.now) (option_copied c.first_word.result) c.word_notice-notice.result.1 c.loop-word.invariant (ap (map string_bytes) c.in-Some.ensures.cases.0) (rw c.as_str.ensures.value at c.if-eq.ensures) c.first_word.ensures (rw c.as_str-in-Some.ensures.value at c.word_notice-notice.ensures.told) c.if-is_some.ensures (rw c.as_str-in-Some.ensures.value at c.word_notice-notice.ensures.took) (ap (map string_bytes) c.words_left-rest.ensures ∙ map-left string_bytes c.word_notice-notice.result.1 c.in-Some.behind.now)

pub returns : goal.returns
returns c = at_nothing _ (map string_bytes c.loop-word.rest.now) c.loop-word.invariant (ap (map string_bytes) (nil_from_length c.loop-word.rest.now c.in_default.ensures.cases))
