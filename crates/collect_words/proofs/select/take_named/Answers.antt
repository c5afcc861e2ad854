use Rattle.std.proofs.Common.{arith}
use Rattle.collect_words.specs.Nodes.{is_named}
use Rattle.collect_words.proofs.Once.{once_step}
use Rattle.collect_words.proofs.Picks.{picked, picked-append}
use Rattle.collect_words.proofs.select.take_named.Goals as goal

pub loop-item-preserved : goal.loop-item-preserved
loop-item-preserved c =
    once_step (picked (is_named c.args.part.now)) (picked-append (is_named c.args.part.now)) _ c.args.items.now c.loop-item.item-index c.item-item.result _ _ (omega arith) c.item-item.is c.loop-item.invariant c.in_ok-take_item.ensures
