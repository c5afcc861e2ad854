use Rattle.std.proofs.Common.{◌∙◌}
use Rattle.match_pattern.proofs.Marks.{search_found}
use Rattle.match_pattern.proofs.searching.is_found.Goals as goal

pub returns : goal.returns
returns c = c.pass_all.ensures ∙ search_found c.args.pattern.now c.items-items.result.now c.deref_mut.result.now c.args.text.now c.items-items.ensures (c.deref_mut.ensures.value ∙ c.in_ok-marks.ensures.marks)
