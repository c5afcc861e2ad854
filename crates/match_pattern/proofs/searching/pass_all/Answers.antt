use Rattle.std.proofs.Common.{◌∙◌}
use Rattle.match_pattern.proofs.Marks.{pass_item, items_done}
use Rattle.match_pattern.proofs.searching.pass_all.Goals as goal

pub loop-item-preserved : goal.loop-item-preserved
loop-item-preserved c =
    let p = pass_item c.args.at_end c.args.items.now c.loop-item.item-index _ c.loop-item.marks c.pass.new.marks c.args.text.now c.loop-item-test.true c.loop-item.invariant.0 c.pass.ensures in
    (p.0, p.1 ∙ c.loop-item.invariant.1)

pub returns : goal.returns
returns c = items_done c.args.at_end c.args.items.now c.loop-item.item-index c.loop-item.marks c.args.text.now c.may_end.result _ c.loop-item-test.false c.may_end.ensures c.loop-item.invariant.1
