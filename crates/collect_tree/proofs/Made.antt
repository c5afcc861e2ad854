-- A suite that was made of tests, and the closures of its items.
use Rattle.std.proofs.Common.{◌≡◌, ◌≤◌, ◌+◌, ◌<◌, ℕ, zero, suc, true, List, [], ◌∷◌, ◌++◌, map, length, Some, refl, sym, ap, ◌∙◌, subst, arith}
use Rattle.std.specs.Prelude.{slice_get}
use Rattle.std.proofs.lemmas.List.{length-append, length-map}
use Rattle.collect_items.proofs.collect_fixtures_lemmas.Counts.{defs_count}
use Rattle.collect_items.proofs.collect_fixtures_lemmas.Known.{closure_low}
use Rattle.collect_items.proofs.collect_fixtures_lemmas.Needs.{item_whole}
use Rattle.collect_items.specs.collect_fixtures.Closures.{item_closure}
use Rattle.collect_items.specs.collect_fixtures.Tables.{all_names, all_numbers, item_node, table_defs, table_of}
use Rattle.collect_items.specs.Items.{FixtureTable, all_items, bound_number, defined_fixture, files_behind, findings, fixtures_with, item, items_from, parent_of_item, placed_of, suite_behind}
use Rattle.collect_ids.specs.Files.{files_asked}
use Rattle.collect_items.specs.Reads.{files_read}
use Rattle.collect_items.specs.declared.found.FoundSuite.{FoundSuite}
use Rattle.collection_nodes.specs.Tree.{all_folders, outer_nodes}
use Rattle.collection_nodes.specs.declared.test_file.TestFile.{TestFile}
use Rattle.collect_items.specs.fixture_definitions.Arguments.{but_request}
use Rattle.collect_items.specs.fixture_definitions.Definitions.{all_definitions}
use Rattle.collect_items.specs.fixture_definitions.Tests.{all_tests}
use Rattle.collect_items.specs.fixture_definitions.declared.found.Definition.{Definition}
use Rattle.collect_items.specs.collect_rows.declared.items.FoundItem.{FoundItem}
use Rattle.conftest_hooks.specs.hook_order.declared.implementation.Impl.{Impl}
use Rattle.fixture_table.proofs.Settles.{settled}
use Rattle.fixture_table.specs.Faults as table
use Rattle.fixture_table.specs.Nearest.{def_at}
use Rattle.fixture_table.specs.declared.types.CollectionNode.{CollectionNode}
use Rattle.fixture_world.specs.Items.{bound_argument, closure_of, item_in_session}
use Rattle.py_values.specs.declared.object.Obj.{Obj}
use Rattle.fixture_world.specs.runtest_rules.Language.{python}
use Rattle.session_rules.specs.Fits.{Directly, HasFixtureClosure, FitsClosure, Further, IsValidClosure, DependsOn}
use Rattle.session_rules.specs.World as session
use Rattle.session_types.proofs.Lists.{In-among, among-In}
use Rattle.session_types.specs.Numbers.{among}
use Rattle.session_types.specs.Scopes.{rank}
use Rattle.session_types.specs.declared.scope.Scope.{Scope}
use Rattle.setup_stack.specs.fixture_instances.Items.{bound_names, requests_in}
use Rattle.test_suite.specs.Suites.{fixture_at, fixture_or}
use Rattle.test_suite.specs.declared.hook.HookTable.{HookTable}
use Rattle.test_suite.specs.declared.item.BoundArgument.{BoundArgument}
use Rattle.test_suite.specs.declared.item.Item.{Item}
use Rattle.collect_tree.specs.Collection.{found_by, found_of_asked, under_hooks}
use Rattle.collect_tree.specs.Loads.{LoadResults}
use Rattle.test_suite.specs.declared.item.ItemClosure.{ItemClosure}
use Rattle.test_suite.specs.declared.item.ItemClosure.TheVariants as closure

pub record IsMade (found : FoundSuite) : Type 0 where
  pub heap : List Obj
  pub walk : List (List ℕ)
  pub outer : List CollectionNode
  pub tests : List FoundItem
  pub names : List (List ℕ)
  pub definitions : List Definition
  pub nodes : found.table.nodes ≡ outer ++ map item_node (map parent_of_item tests)
  pub defs : found.table.defs ≡ table_defs names 0 definitions
  pub items : found.suite.items ≡ items_from heap walk (fixtures_with found.table names definitions) (length outer) tests
  pub fixtures : found.suite.fixtures ≡ map defined_fixture definitions
  pub behind : found.suite.outer ≡ length outer

made_behind : (heap : List Obj) (walk : List (List ℕ)) (outer : List CollectionNode) (names : List (List ℕ)) (definitions : List Definition) (tests : List FoundItem)
    → IsMade (suite_behind heap walk outer names definitions tests)
unfolding suite_behind table_of
made_behind heap walk outer names definitions tests = record {
  heap = heap;
  walk = walk;
  outer = outer;
  tests = tests;
  names = names;
  definitions = definitions;
  nodes = refl;
  defs = refl;
  items = refl;
  fixtures = refl;
  behind = refl;
}

pub made : (heap : List Obj) (walk : List (List ℕ)) (above files : List TestFile) → IsMade (findings heap walk above files).suite
unfolding findings
made heap walk above files =
    let folders = all_folders walk files in
    let placed = placed_of heap walk files in
    let outer = outer_nodes heap walk folders placed in
    let definitions = all_definitions heap walk folders above placed in
    let names = all_names definitions (all_tests heap placed) in
    made_behind heap walk outer names definitions (all_items (files_behind heap outer names definitions (all_tests heap placed) placed))

-- also where the hook that makes ids was asked
pub found_made : (limit : ℕ) (hooks : HookTable) (walk : List (List ℕ)) (above : List TestFile) (loaded : LoadResults) (impls : List Impl) → IsMade (found_by limit hooks walk above loaded impls).0.suite
found_made limit hooks walk above loaded [] = made loaded.world.heap walk above loaded.files
found_made limit hooks walk above loaded (which ∷ others) =
    let read = files_read loaded.world.heap walk above loaded.files in
    let x = files_asked limit hooks walk read loaded.world in
    made_behind x.1.heap walk read.basis.outer read.basis.names read.basis.definitions (all_items (map found_of_asked x.0))

-- its hooks don't matter
pub under : (t : HookTable) (found : FoundSuite) → IsMade found → IsMade (under_hooks t found)
under t found m = record {
  heap = m.heap;
  walk = m.walk;
  outer = m.outer;
  tests = m.tests;
  names = m.names;
  definitions = m.definitions;
  nodes = m.nodes;
  defs = m.defs;
  items = m.items;
  fixtures = m.fixtures;
  behind = m.behind;
}

-- an item of a suite, and its place
pub record IsItem (heap : List Obj) (walk : List (List ℕ)) (f : FixtureTable) (node : ℕ) (i : Item) : Type 0 where
  pub test : FoundItem
  pub is : i ≡ item heap walk f node test

some_is : (x y : Item) → Some x ≡ Some y → x ≡ y
some_is x y q = cc

pub item_there : (heap : List Obj) (walk : List (List ℕ)) (f : FixtureTable) (node : ℕ) (tests : List FoundItem) (k : ℕ) (i : Item)
    → slice_get (items_from heap walk f node tests) k ≡ Some i → IsItem heap walk f (node + k) i
item_there heap walk f node [] zero i e = absurd (cc e)
item_there heap walk f node [] (suc k) i e = absurd (cc e)
item_there heap walk f node (t ∷ ts) zero i e =
    let same : node ≡ node + 0 = omega arith in
    record { test = t; is = subst (λ (n : ℕ). i ≡ item heap walk f n t) same (sym (some_is (item heap walk f node t) i e)) }
item_there heap walk f node (t ∷ ts) (suc k) i e =
    let same : node + 1 + k ≡ node + suc k = omega arith in
    subst (λ (n : ℕ). IsItem heap walk f n i) same (item_there heap walk f (node + 1) ts k i e)

pub item_within : (heap : List Obj) (walk : List (List ℕ)) (f : FixtureTable) (node : ℕ) (tests : List FoundItem) (k : ℕ) (i : Item)
    → slice_get (items_from heap walk f node tests) k ≡ Some i → k < length tests
item_within heap walk f node [] zero i e = absurd (cc e)
item_within heap walk f node [] (suc k) i e = absurd (cc e)
item_within heap walk f node (t ∷ ts) zero i e = omega arith
item_within heap walk f node (t ∷ ts) (suc k) i e = let l = item_within heap walk f (node + 1) ts k i e in omega arith

-- the scope of a definition is that of its fixture
same_scope : (names : List (List ℕ)) (number : ℕ) (ds : List Definition) (d : ℕ) → (def_at (table_defs names number ds) d).scope ≡ (fixture_or (slice_get (map defined_fixture ds) d)).scope
same_scope names number [] zero = refl
same_scope names number [] (suc d) = refl
same_scope names number (one ∷ ds) zero = refl
same_scope names number (one ∷ ds) (suc d) = same_scope names (number + 1) ds d

-- what is reached in a session is reached in the table
reached_in : (requests : ℕ → List ℕ) (d e : ℕ) → DependsOn requests d e → table.RequestPath requests d e
reached_in requests d _ (Directly e i) = table.Once d e (In-among e (requests d) i)
reached_in requests d _ (Further e f r i) = behind d e f (reached_in requests d e r) (In-among f (requests e) i)
  where
    behind : (a b c : ℕ) → table.RequestPath requests a b → among c (requests b) ≡ true → table.RequestPath requests a c
    behind _ _ c (table.Once a b h) g = table.Then a b c h (table.Once b c g)
    behind _ _ c (table.Then a b z h r) g = table.Then a b c h (behind b z c r g)

module _ (found : FoundSuite) (m : IsMade found) where
  -- an item of the suite, with its number
  pub item_made : (n : ℕ) (i : Item) → slice_get found.suite.items n ≡ Some i → IsItem m.heap m.walk (fixtures_with found.table m.names m.definitions) (length m.outer + n) i
  item_made n i e = item_there m.heap m.walk (fixtures_with found.table m.names m.definitions) (length m.outer) m.tests n i (ap (λ (is : List Item). slice_get is n) (sym m.items) ∙ e)

  pub node_is : (n : ℕ) (i : Item) → slice_get found.suite.items n ≡ Some i → i.node ≡ found.suite.outer + n
  node_is n i e = ap (λ (x : Item). x.node) (item_made n i e).is ∙ ap (λ (k : ℕ). k + n) (sym m.behind)

  many_nodes : length found.table.nodes ≡ length m.outer + length m.tests
  many_nodes =
      ap (λ (ns : List CollectionNode). length ns) m.nodes
      ∙ (length-append m.outer (map item_node (map parent_of_item m.tests))
      ∙ ap (λ (k : ℕ). length m.outer + k) (length-map (map parent_of_item m.tests) item_node ∙ length-map m.tests parent_of_item))

  pub node_there : (n : ℕ) (i : Item) → slice_get found.suite.items n ≡ Some i → i.node < length found.table.nodes
  node_there n i e =
      let l : n < length m.tests = item_within m.heap m.walk (fixtures_with found.table m.names m.definitions) (length m.outer) m.tests n i (ap (λ (is : List Item). slice_get is n) (sym m.items) ∙ e) in
      omega (arith, node_is n i e, m.behind, many_nodes)

module _ (rules : session.Rules python) (found : FoundSuite) (m : IsMade found) (depth : rules.depth ≡ length found.suite.fixtures) (scopes : (d : ℕ) → rules.scope d ≡ (fixture_at found.suite d).scope) where
  pub count : length found.table.defs ≡ rules.depth
  count = ap length m.defs ∙ (defs_count m.names 0 m.definitions ∙ (sym (length-map m.definitions defined_fixture) ∙ (ap length (sym m.fixtures) ∙ sym depth)))

  pub scope_of : (d : ℕ) → (def_at found.table.defs d).scope ≡ rules.scope d
  scope_of d =
      ap (λ ds. (def_at ds d).scope) m.defs
      ∙ (same_scope m.names 0 m.definitions d
      ∙ (ap (λ fs. (fixture_or (slice_get fs d)).scope) (sym m.fixtures) ∙ sym (scopes d)))

  ranked : (d e : ℕ) → rank (def_at found.table.defs e).scope ≤ rank (def_at found.table.defs d).scope → rank (rules.scope e) ≤ rank (rules.scope d)
  ranked d e l =
      subst (λ (s : Scope). rank s ≤ rank (rules.scope d)) (scope_of e)
      (subst (λ (s : Scope). rank (def_at found.table.defs e).scope ≤ rank s) (scope_of d) l)

  -- what a row binds, as a demand has it
  same_bound : (bound : List BoundArgument) → bound_names (map bound_argument bound) ≡ map bound_number bound
  same_bound [] = refl
  same_bound (b ∷ bs) = ap (λ (ns : List ℕ). b.number ∷ ns) (same_bound bs)

  abbrev Needs : Item → ℕ → FoundItem → ItemClosure
  Needs i node t = item_closure found.table m.names m.definitions node (map bound_number i.bound) t.uses t.arguments

  whole_fits : (i : Item) (node : ℕ) (t : FoundItem) (ds : List ℕ) → i.node ≡ node → Needs i node t ≡ closure.Whole ds → IsValidClosure rules (item_in_session found.table i) ds
  unfolding requests_in
  whole_fits i node t ds n e =
      let binds = bound_names (map bound_argument i.bound) in
      let uses = all_numbers m.names t.uses in
      let args = all_numbers m.names (but_request t.arguments) in
      let here = subst (λ (k : ℕ). Needs i k t ≡ closure.Whole ds) (sym n) e in
      let at = subst (λ (ns : List ℕ). item_closure found.table m.names m.definitions i.node ns t.uses t.arguments ≡ closure.Whole ds) (sym (same_bound i.bound)) here in
      let c = item_whole found.table m.names m.definitions i.node binds t.uses t.arguments ds at in
      let s = settled found.table.nodes found.table.defs i.node binds uses args ds c in
      record {
        known = λ d there. subst (λ (k : ℕ). d < k) count (closure_low found.table.nodes found.table.defs i.node binds uses args ds c d there);
        whole = λ d e there asked. among-In e ds (s.within d e (In-among d ds there) (In-among e _ asked));
        scopes = λ d e there asked. ranked d e (s.broader d e (In-among d ds there) (In-among e _ asked));
        acyclic = λ d there r. s.apart d (In-among d ds there) (reached_in _ d d r);
      }

  closure_fits : (i : Item) (node : ℕ) (t : FoundItem) (c : ItemClosure) → i.node ≡ node → Needs i node t ≡ c → FitsClosure rules (item_in_session found.table i) (closure_of c)
  closure_fits i node t (closure.Whole ds) n e = whole_fits i node t ds n e
  closure_fits i node t (closure.Fault text) n e = tt

  pub fits_made : (node : ℕ) (i : Item) → IsItem m.heap m.walk (fixtures_with found.table m.names m.definitions) node i → HasFixtureClosure rules (item_in_session found.table i)
  fits_made node i h =
      let one = item m.heap m.walk (fixtures_with found.table m.names m.definitions) node h.test in
      subst (λ (x : Item). HasFixtureClosure rules (item_in_session found.table x)) (sym h.is) (closure_fits one node h.test (Needs one node h.test) refl refl)
