use Rattle.std.proofs.Common.{List, subst, sym, ap, ◌∙◌}
use Rattle.collect_items.specs.declared.found.FoundSuite.{FoundSuite}
use Rattle.collect_words.specs.declared.nodes.FileNodes.{FileNodes}
use Rattle.collect_tree.proofs.Finds.{found_refused, found_whole}
use Rattle.collect_tree.specs.Collection.{collected_by, nodes_selected}
use Rattle.collect_tree.specs.Runnable.{IsRunnable}
use Rattle.collect_tree.specs.Told.{IsWordRefusal, loaded_told}
use Rattle.collect_tree.proofs.collection.of_found.Goals as goal

pub in_order-requires-clause-runnable : goal.in_order-requires-clause-runnable
in_order-requires-clause-runnable c = subst (λ (f : FoundSuite). IsRunnable f) (sym c.under_hooks.ensures.whole) c.requires.runnable
