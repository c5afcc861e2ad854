use Rattle.std.proofs.Common.{map, ap, ◌∙◌}
use Rattle.std.specs.Prelude.{string_bytes}
use Rattle.std.specs.Option.{option_copied}
use Rattle.std.proofs.lemmas.List.{nil_from_length}
use Rattle.std.proofs.lemmas.Result.{err_from_is_err_and}
use Rattle.cli_words.proofs.Cut.{at_end, at_fault, at_nothing, at_word, map-left}
use Rattle.cli_words.proofs.read.read_all.Goals as goal

pub returns-then-eq : goal.returns-then-eq
returns-then-eq c =
    at_end _ c.loop-word.options c.read_paths.new.options (map string_bytes c.loop-word.rest.now) (map string_bytes c.in-Some.behind.now) (string_bytes c.in-Some.word.now) c.loop-word.invariant (ap (map string_bytes) c.in-Some.ensures.cases.0) (rw c.as_str.ensures.value at c.if-eq.ensures) c.in_ok-read_paths.ensures

pub returns-in_err-took : goal.returns-in_err-took
returns-in_err-took c =
    let p = err_from_is_err_and c.from_residual-in_err-took.result c.from_residual-in_err-took.ensures.1 in
    rw (p.1, p.2) (at_fault _ c.loop-word.options (map string_bytes c.loop-word.rest.now) (map string_bytes c.in-Some.behind.now) (string_bytes c.in-Some.word.now) (option_copied c.first_word.result) c.in_err-took.field-0.0 c.loop-word.invariant (ap (map string_bytes) c.in-Some.ensures.cases.0) (rw c.as_str.ensures.value at c.if-eq.ensures) c.first_word.ensures (rw c.as_str-in-Some.ensures.value at c.in_err-took.ensures.reading))

pub loop-word-preserved : goal.loop-word-preserved
loop-word-preserved c =
    at_word _ c.loop-word.options c.read_word.new.options (map string_bytes c.loop-word.rest.now) (map string_bytes c.in-Some.behind.now) (map string_bytes c.words_left-rest.result.now) (string_bytes c.in-Some.word.now) (option_copied c.first_word.result) c.in_ok-took.took c.loop-word.invariant (ap (map string_bytes) c.in-Some.ensures.cases.0) (rw c.as_str.ensures.value at c.if-eq.ensures) c.first_word.ensures (rw c.as_str-in-Some.ensures.value at c.in_ok-took.ensures.reading) (rw c.as_str-in-Some.ensures.value at c.in_ok-took.ensures.took) (ap (map string_bytes) c.words_left-rest.ensures ∙ map-left string_bytes c.in_ok-took.took c.in-Some.behind.now)

pub returns : goal.returns
returns c = at_nothing _ c.loop-word.options (map string_bytes c.loop-word.rest.now) c.loop-word.invariant (ap (map string_bytes) (nil_from_length c.loop-word.rest.now c.in_default.ensures.cases))
