use Rattle.std.proofs.Common.{false, ◌∙◌}
use Rattle.match_pattern.proofs.Marks.{end_then, end_else}
use Rattle.match_pattern.proofs.searching.may_end.Goals as goal

pub returns-then-at_end : goal.returns-then-at_end
returns-then-at_end c = end_then c.args.at_end c.args.marks.now c.args.text.now false c.if-at_end.true c.requires

pub returns-else-at_end : goal.returns-else-at_end
returns-else-at_end c = c.any_marked.ensures ∙ end_else c.args.at_end c.args.marks.now c.args.text.now c.if-at_end.false
