-- The items of one test more.
use Rattle.std.proofs.Common.{◌≡◌, ℕ, ◌+◌, ◌<◌, ◌≤◌, List, [], ◌∷◌, Option, Some, None, length, drop, get_or, refl, sym, ap, ◌∙◌}
use Rattle.std.proofs.lemmas.List.{append-nil, drop_all, drop_more}
use Rattle.collect_items.specs.Items.{FixtureTable}
use Rattle.collect_rows.specs.FileItems.{items_before}
use Rattle.collect_rows.specs.declared.items.FileItems.{FileItems}
use Rattle.collect_rows.specs.declared.items.FileItems.TheVariants.{Items, Fault}
use Rattle.collect_rows.specs.declared.items.FoundItem.{FoundItem}
use Rattle.collect_rows.specs.declared.items.RowsFault.{RowsFault}
use Rattle.fixture_definitions.specs.declared.found.FoundTest.{FoundTest}
use Rattle.hook_order.specs.declared.implementation.Impl.{Impl}
use Rattle.test_suite.specs.declared.hook.HookTable.{HookTable}
use Rattle.runtest_rules.specs.tracebacks.source_meaning.Meaning.{SourceWorld}
use Rattle.collect_ids.specs.Asking.{rows_asked}
use Rattle.collect_ids.specs.Files.{FileAsked, before_others, items_behind, tests_asked}
use Rattle.collect_ids.specs.Told.{items_told}

none_before : (items : FileItems) → items_before [] items ≡ items
none_before (Items xs) = refl
none_before (Fault fault) = refl

pub before_none : (x : FileAsked) → before_others [] x ≡ x
before_none x = ap (λ (items : FileItems). (items, x.1)) (none_before x.0)

module _ (limit : ℕ) (hooks : HookTable) (f : FixtureTable) (impls : List Impl) where
  abbrev Walk : ℕ → List FoundTest → SourceWorld → FileAsked
  Walk = tests_asked limit hooks f impls

  -- what one test does to the items before it
  abbrev pub Pushes : Option RowsFault → List FoundItem → List FoundItem → ℕ → FoundTest → SourceWorld → SourceWorld → Type 0
  Pushes fault found more node t w u =
      (others : SourceWorld → FileAsked) → items_told fault more others u ≡ before_others found (items_behind t (rows_asked limit hooks impls f.table f.names f.definitions node t w) others)

  here : (tests : List FoundTest) (i node : ℕ) (t : FoundTest) (found : List FoundItem) (w : SourceWorld) → i < length tests → t ≡ get_or tests i t
      → before_others found (items_behind t (rows_asked limit hooks impls f.table f.names f.definitions node t w) (Walk (node + 1) (drop (i + 1) tests))) ≡ before_others found (Walk node (drop i tests) w)
  here tests i node t found w l e =
      ap (λ (x : FoundTest). before_others found (Walk node (x ∷ drop (i + 1) tests) w)) e
      ∙ ap (λ (ts : List FoundTest). before_others found (Walk node ts w)) (sym (drop_more tests i t l))

  pub tests_on : (tests : List FoundTest) (i node next : ℕ) (t : FoundTest) (fault : Option RowsFault) (found more : List FoundItem) (w u : SourceWorld) (all : FileAsked)
      → i < length tests → t ≡ get_or tests i t → before_others found (Walk node (drop i tests) w) ≡ all → Pushes fault found more node t w u → fault ≡ None → next ≡ node + 1
      → before_others more (Walk next (drop (i + 1) tests) u) ≡ all
  tests_on tests i node next t fault found more w u all l e is new none n =
      ap (λ (k : ℕ). before_others more (Walk k (drop (i + 1) tests) u)) n
      ∙ (ap (λ (x : Option RowsFault). items_told x more (Walk (node + 1) (drop (i + 1) tests)) u) (sym none)
      ∙ (new (Walk (node + 1) (drop (i + 1) tests)) ∙ (here tests i node t found w l e ∙ is)))

  pub fault_on : (tests : List FoundTest) (i node : ℕ) (t : FoundTest) (fault : Option RowsFault) (one : RowsFault) (found more : List FoundItem) (w u : SourceWorld) (all : FileAsked)
      → i < length tests → t ≡ get_or tests i t → before_others found (Walk node (drop i tests) w) ≡ all → Pushes fault found more node t w u → fault ≡ Some one
      → (Fault one, u) ≡ all
  fault_on tests i node t fault one found more w u all l e is new some =
      ap (λ (x : Option RowsFault). items_told x more (Walk (node + 1) (drop (i + 1) tests)) u) (sym some)
      ∙ (new (Walk (node + 1) (drop (i + 1) tests)) ∙ (here tests i node t found w l e ∙ is))

  pub tests_done : (tests : List FoundTest) (i node : ℕ) (found : List FoundItem) (w : SourceWorld) (all : FileAsked)
      → length tests ≤ i → before_others found (Walk node (drop i tests) w) ≡ all → (Items found, w) ≡ all
  tests_done tests i node found w all l is =
      ap (λ (xs : List FoundItem). (Items xs, w)) (sym (append-nil found)) ∙ (ap (λ (ts : List FoundTest). before_others found (Walk node ts w)) (sym (drop_all i tests l)) ∙ is)
