use Rattle.std.proofs.Common.{ℕ, ◌+◌, ◌++◌, List, length, ap, sym, subst, ◌∙◌}
use Rattle.std.proofs.lemmas.List.{length-append, length-map}
use Rattle.collect_fixtures.proofs.Counts.{defs_count}
use Rattle.collect_fixtures.specs.Tables.{item_node, table_defs}
use Rattle.collect_fixtures.proofs.tables.table_of.Goals as goal
use Rattle.fixture_table.specs.Tables.{TableValue}
use Rattle.fixture_table.specs.Tree.{IsTree}
use Rattle.fixture_table.specs.declared.types.CollectionNode.{CollectionNode}

pub returns-in-Ok-clause-defs : goal.returns-in-Ok-clause-defs
returns-in-Ok-clause-defs c =
    sym (ap (λ (t : TableValue). length t.defs) c.in-Ok.ensures
    ∙ (ap (λ (t : TableValue). length (t.defs ++ table_defs c.args.names.now 0 c.args.definitions.now)) c.in_ok-table.ensures
    ∙ defs_count c.args.names.now 0 c.args.definitions.now))

pub returns-in-Ok-clause-nodes : goal.returns-in-Ok-clause-nodes
returns-in-Ok-clause-nodes c =
    ap (λ (t : TableValue). length t.nodes) c.in-Ok.ensures
    ∙ (ap (λ (t : TableValue). length t.nodes) c.in_ok-table.ensures
    ∙ (ap length c.in_ok-tree_of.ensures.same
    ∙ (ap length c.in_ok-push_items.ensures
    ∙ (length-append c.args.outer.items _ ∙ ap (λ (n : ℕ). length c.args.outer.items + n) (length-map c.args.parents.now item_node)))))

pub returns-in-Ok-clause-tree : goal.returns-in-Ok-clause-tree
returns-in-Ok-clause-tree c =
    subst (λ (nodes : List CollectionNode). IsTree nodes) (sym (ap (λ (t : TableValue). t.nodes) c.in-Ok.ensures ∙ ap (λ (t : TableValue). t.nodes) c.in_ok-table.ensures)) c.in_ok-tree_of.ensures.tree
