use Rattle.std.proofs.Common.{arith}
use Rattle.std.proofs.lemmas.List.{map-append}
use Rattle.collect_words.specs.Nodes.{item_numbers}
use Rattle.collect_words.specs.declared.nodes.ItemNames.{ItemNames}
use Rattle.collect_words.proofs.Once.{once_step}
use Rattle.collect_words.proofs.select.take_all.Goals as goal

pub loop-item-preserved : goal.loop-item-preserved
loop-item-preserved c =
    once_step item_numbers (map-append (λ (item : ItemNames). item.number)) _ c.args.items.now c.loop-item.item-index c.item-item.result _ _ (omega arith) c.item-item.is c.loop-item.invariant c.in_ok-take.ensures
