-- The items of one test more.
use Rattle.std.proofs.Common.{◌≡◌, ℕ, ◌+◌, ◌<◌, ◌≤◌, List, [], ◌∷◌, Option, Some, None, length, drop, get_or, refl, sym, ap, ◌∙◌}
use Rattle.std.proofs.lemmas.List.{append-nil, drop_all, drop_more}
use Rattle.collect_rows.specs.FileItems.{items_before, items_of_tests, or_fault, test_before}
use Rattle.collect_rows.specs.declared.items.FileItems.{FileItems}
use Rattle.collect_rows.specs.declared.items.FileItems.TheVariants.{Items, Fault}
use Rattle.collect_rows.specs.declared.items.FoundItem.{FoundItem}
use Rattle.collect_rows.specs.declared.items.RowsFault.{RowsFault}
use Rattle.fixture_definitions.specs.declared.found.Definition.{Definition}
use Rattle.fixture_definitions.specs.declared.found.FoundTest.{FoundTest}
use Rattle.fixture_table.specs.Tables.{TableValue}
use Rattle.py_values.specs.declared.object.Obj.{Obj}

pub none_before : (items : FileItems) → items_before [] items ≡ items
none_before (Items xs) = refl
none_before (Fault fault) = refl

module _ (heap : List Obj) (table : TableValue) (names : List (List ℕ)) (definitions : List Definition) where
  abbrev Walk : ℕ → List FoundTest → FileItems
  Walk = items_of_tests heap table names definitions

  -- what one test does to the items before it
  abbrev pub Pushes : Option RowsFault → List FoundItem → List FoundItem → ℕ → FoundTest → Type 0
  Pushes fault found more node t = (others : FileItems) → or_fault fault (items_before more others) ≡ items_before found (test_before heap table names definitions node t others)

  here : (tests : List FoundTest) (i node : ℕ) (t : FoundTest) (found : List FoundItem) → i < length tests → t ≡ get_or tests i t
      → items_before found (test_before heap table names definitions node t (Walk (node + 1) (drop (i + 1) tests))) ≡ items_before found (Walk node (drop i tests))
  here tests i node t found l e =
      ap (λ (x : FoundTest). items_before found (Walk node (x ∷ drop (i + 1) tests))) e
      ∙ ap (λ (ts : List FoundTest). items_before found (Walk node ts)) (sym (drop_more tests i t l))

  pub tests_on : (tests : List FoundTest) (i node next : ℕ) (t : FoundTest) (fault : Option RowsFault) (found more : List FoundItem) (all : FileItems)
      → i < length tests → t ≡ get_or tests i t → items_before found (Walk node (drop i tests)) ≡ all → Pushes fault found more node t → fault ≡ None → next ≡ node + 1
      → items_before more (Walk next (drop (i + 1) tests)) ≡ all
  tests_on tests i node next t fault found more all l e is new none n =
      ap (λ (k : ℕ). items_before more (Walk k (drop (i + 1) tests))) n
      ∙ (ap (λ (f : Option RowsFault). or_fault f (items_before more (Walk (node + 1) (drop (i + 1) tests)))) (sym none)
      ∙ (new (Walk (node + 1) (drop (i + 1) tests)) ∙ (here tests i node t found l e ∙ is)))

  pub fault_on : (tests : List FoundTest) (i node : ℕ) (t : FoundTest) (fault : Option RowsFault) (one : RowsFault) (found more : List FoundItem) (all : FileItems)
      → i < length tests → t ≡ get_or tests i t → items_before found (Walk node (drop i tests)) ≡ all → Pushes fault found more node t → fault ≡ Some one
      → Fault one ≡ all
  fault_on tests i node t fault one found more all l e is new some =
      ap (λ (f : Option RowsFault). or_fault f (items_before more (Walk (node + 1) (drop (i + 1) tests)))) (sym some)
      ∙ (new (Walk (node + 1) (drop (i + 1) tests)) ∙ (here tests i node t found l e ∙ is))

  pub tests_done : (tests : List FoundTest) (i node : ℕ) (found : List FoundItem) (all : FileItems)
      → length tests ≤ i → items_before found (Walk node (drop i tests)) ≡ all → Items found ≡ all
  tests_done tests i node found all l is =
      ap Items (sym (append-nil found)) ∙ (ap (λ (ts : List FoundTest). items_before found (Walk node ts)) (sym (drop_all i tests l)) ∙ is)
