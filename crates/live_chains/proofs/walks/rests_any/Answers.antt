use Rattle.std.proofs.Common.{◌∙◌, sym}
use Rattle.live_chains.proofs.Going.{rests_below, rests_itself}
use Rattle.live_chains.proofs.walks.rests_any.Goals as goal

pub returns-then-has : goal.returns-then-has
returns-then-has c = c.if-has.true ∙ rests_itself c.args.roots.now c.args.instance.now (sym c.has.ensures ∙ c.if-has.true)

pub returns-else-has : goal.returns-else-has
returns-else-has c = rests_below c.args.roots.now c.args.instance.now c.has_any.result (sym c.has.ensures ∙ c.if-has.false) c.has_any.ensures
