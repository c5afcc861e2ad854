use Rattle.std.proofs.Common.{arith, []}
use Rattle.collect_words.specs.Nodes.{items_named, item_numbers}
use Rattle.collect_words.specs.declared.named.NamedWord.{NamedWord}
use Rattle.collect_words.proofs.Once.{flat_step}
use Rattle.collect_words.proofs.select.reached.Goals as goal

pub loop-word-preserved : goal.loop-word-preserved
loop-word-preserved c =
    flat_step (λ (word : NamedWord). item_numbers (items_named c.args.walk.now c.args.tests.now c.args.files.now word.named)) [] c.args.words.now c.loop-word.word-index c.word-item.result _ _ (omega arith) c.word-item.is c.loop-word.invariant c.in_ok-take_items.ensures
