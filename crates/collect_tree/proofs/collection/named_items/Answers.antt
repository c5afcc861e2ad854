use Rattle.collect_tree.proofs.Ends.{few_selected}
use Rattle.collect_tree.proofs.collection.named_items.Goals as goal

pub returns-in-Ok-clause-few : goal.returns-in-Ok-clause-few
returns-in-Ok-clause-few c = few_selected _ _ _ _ _ _ c.in-Ok.ensures.ok
