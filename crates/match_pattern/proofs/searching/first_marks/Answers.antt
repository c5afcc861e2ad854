use Rattle.std.proofs.Common.{Bool, List, [], ◌∷◌, ◌++◌, length, ap, ◌∙◌}
use Rattle.match_pattern.proofs.Marks.{first_more, first_all, length_first}
use Rattle.match_pattern.proofs.searching.first_marks.Goals as goal

pub loop-at-preserved : goal.loop-at-preserved
loop-at-preserved c = c.in_ok-push.ensures.items ∙ (ap (λ (ms : List Bool). ms ++ c.may_begin.result ∷ []) c.loop-at.invariant ∙ first_more c.args.at_start c.args.text.now c.loop-at.at c.may_begin.result c.loop-at-test.true c.may_begin.ensures)

pub returns : goal.returns
returns c =
    let marks = c.loop-at.invariant ∙ first_all c.args.at_start c.args.text.now c.loop-at.at c.loop-at-test.false in
    record { marks = marks; length = ap length marks ∙ length_first c.args.at_start c.args.text.now }
