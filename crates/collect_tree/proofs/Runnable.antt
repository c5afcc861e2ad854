-- What is found can run.
use Rattle.std.proofs.Common.{◌≡◌, ◌+◌, ◌-◌, ℕ, Bool, true, List, Some, None, refl, sym, ap, ◌∙◌, subst, arith}
use Rattle.std.specs.Prelude.{nat_le, slice_get, if◌then◌else◌}
use Rattle.std.proofs.lemmas.Bool.{le-leb}
use Rattle.collect_items.specs.declared.found.FoundSuite.{FoundSuite}
use Rattle.collection_nodes.specs.declared.test_file.TestFile.{TestFile}
use Rattle.fixture_table.specs.Tree.{IsTree}
use Rattle.fixture_world.specs.runtest_rules.Rules.{impls_of, rules_within}
use Rattle.test_suite.specs.Suites.{item_with_node, item_or}
use Rattle.test_suite.specs.declared.item.Item.{Item}
use Rattle.test_suite.specs.declared.suite.Suite.{Suite}
use Rattle.collect_tree.specs.Runnable.{IsAtHome, IsRunnable}
use Rattle.collect_tree.proofs.Made.{IsMade, count, fits_made, found_made, item_made, node_is, node_there, scope_of, under}
use Rattle.collect_tree.specs.Collection.{found_loaded, under_hooks}
use Rattle.collect_tree.specs.Loads.{LoadResults}
use Rattle.conftest_hooks.proofs.Tables.{table_ordered}
use Rattle.conftest_hooks.specs.Ordered.{AreOrdered}
use Rattle.conftest_hooks.specs.Registered.{hook_table}
use Rattle.conftest_hooks.specs.declared.looking.FoundHook.{FoundHook}
use Rattle.conftest_hooks.specs.hook_order.HookOrder.{InHookOrder}
use Rattle.session_rules.specs.World.{Call, Phase, SetUp, Teardown}
use Rattle.test_suite.specs.declared.hook.HookTable.{HookTable}

behind_outer : (outer n : ℕ) → nat_le outer (outer + n) ≡ true
behind_outer outer n = le-leb outer (outer + n) (omega arith)

past_outer : (outer n : ℕ) → (outer + n) - outer ≡ n
past_outer outer n = omega arith

-- the item with a number is that with its node
found_at : (suite : Suite) (n : ℕ) (i : Item) → slice_get suite.items n ≡ Some i → item_with_node suite (suite.outer + n) ≡ i
found_at suite n i e =
    ap (λ (b : Bool). item_or (if b then slice_get suite.items ((suite.outer + n) - suite.outer) else None)) (behind_outer suite.outer n)
    ∙ (ap (λ (k : ℕ). item_or (slice_get suite.items k)) (past_outer suite.outer n) ∙ ap item_or e)

at_home : (found : FoundSuite) (m : IsMade found) (n : ℕ) (i : Item) → slice_get found.suite.items n ≡ Some i → IsAtHome found i
at_home found m n i e =
    record {
      at = ap (item_with_node found.suite) (node_is found m n i e) ∙ found_at found.suite n i e;
      node = node_there found m n i e;
      fits = λ limit. fits_made (rules_within limit found.suite) found m refl (λ d. refl) _ i (item_made found m n i e);
    }

by_phase : (t : HookTable) → AreOrdered t → (phase : Phase) → InHookOrder (impls_of t phase)
by_phase t o SetUp = o.set_up
by_phase t o Call = o.call
by_phase t o Teardown = o.teardown

made_runs : (found : FoundSuite) → IsMade found → IsTree found.table.nodes → AreOrdered found.suite.hooks → IsRunnable found
made_runs found m tree ordered =
    record {
      tree = tree;
      many = count (rules_within 0 found.suite) found m refl (λ d. refl);
      scopes = λ limit d l. sym (scope_of (rules_within limit found.suite) found m refl (λ e. refl) d);
      hooks = by_phase found.suite.hooks ordered;
      items = λ n i e. at_home found m n i e;
    }

-- what is found, where the nodes of its table are a tree, in the hooks of conftests
pub found_runs : (found : FoundSuite) (limit : ℕ) (walk : List (List ℕ)) (above : List TestFile) (loaded : LoadResults) (hooks : List FoundHook) (table : HookTable) → table ≡ hook_table hooks
    → found ≡ (found_loaded limit table walk above loaded).0.suite → IsTree found.table.nodes → IsRunnable (under_hooks table found)
found_runs found limit walk above loaded hooks table e same tree =
    made_runs (under_hooks table found) (under table found (subst IsMade (sym same) (found_made limit table walk above loaded table.ids))) tree (subst AreOrdered (sym e) (table_ordered hooks))

-- the table of what makes ids is in hook order
pub ids_ordered : (hooks : List FoundHook) (table : HookTable) → table ≡ hook_table hooks → InHookOrder table.ids
ids_ordered hooks table e = subst (λ (t : HookTable). InHookOrder t.ids) (sym e) (table_ordered hooks).ids
