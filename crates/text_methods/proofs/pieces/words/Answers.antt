use Rattle.std.proofs.Common.{sym, ◌∙◌}
use Rattle.text_methods.specs.Pieces.{words}
use Rattle.text_methods.proofs.Cutting.{words_open, words_close, words_go}
use Rattle.text_methods.proofs.pieces.words.Goals as goal

pub loop-c-preserved : goal.loop-c-preserved
loop-c-preserved c =
    rw c.in_ok-push.ensures.items
    (words_go c.loop-c.rest.now c.in-Some.behind.now c.loop-c.last.items (words c.args.text.now) c.loop-c.words.items c.in-Some.c.now
    c.in-Some.ensures.cases.0 (sym c.is_blank.ensures ∙ c.if-is_blank.false) c.loop-c.invariant)

pub loop-c-preserved-then-is_blank : goal.loop-c-preserved-then-is_blank
loop-c-preserved-then-is_blank c =
    rw (c.in_ok-close_word.ensures.words, c.in_ok-close_word.ensures.last)
    (words_close c.loop-c.rest.now c.in-Some.behind.now c.loop-c.last.items (words c.args.text.now) c.loop-c.words.items c.in-Some.c.now
    c.in-Some.ensures.cases.0 (sym c.is_blank.ensures ∙ c.if-is_blank.true) c.loop-c.invariant)

pub loop-c-init : goal.loop-c-init
loop-c-init c = rw (c.new-words.ensures.items, c.new-last.ensures.items) (words_open c.args.text.now)
