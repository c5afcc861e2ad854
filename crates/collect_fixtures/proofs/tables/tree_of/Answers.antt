use Rattle.std.proofs.Common.{List, sym, subst, ◌∙◌}
use Rattle.fixture_table.specs.Tree.{IsTree}
use Rattle.fixture_table.specs.declared.types.CollectionNode.{CollectionNode}
use Rattle.collect_fixtures.proofs.tables.tree_of.Goals as goal

pub returns-in-Ok-clause-tree : goal.returns-in-Ok-clause-tree
returns-in-Ok-clause-tree c = subst (λ (nodes : List CollectionNode). IsTree nodes) (c.deref.ensures.value ∙ sym c.from_vec.ensures) c.in-Ok.ensures
