use Rattle.std.proofs.Common.{sym, ◌∙◌}
use Rattle.text_methods.proofs.Trimming.{to_turn, to_stop, to_none}
use Rattle.text_methods.proofs.chars.to_word.Goals as goal

pub returns-then-not-is_blank : goal.returns-then-not-is_blank
returns-then-not-is_blank c =
    sym (c.loop-c.invariant ∙ to_stop c.loop-c.rest.now c.in-Some.before.now c.in-Some.c.now c.in-Some.ensures.cases.0 (sym c.is_blank.ensures ∙ c.if-not-is_blank.true))

pub loop-c-preserved : goal.loop-c-preserved
loop-c-preserved c =
    c.loop-c.invariant ∙ to_turn c.loop-c.rest.now c.in-Some.before.now c.in-Some.c.now c.in-Some.ensures.cases.0 (sym c.is_blank.ensures ∙ c.if-not-is_blank.false)

pub returns : goal.returns
returns c = sym (c.loop-c.invariant ∙ to_none c.loop-c.rest.now c.in_default.ensures.cases)
