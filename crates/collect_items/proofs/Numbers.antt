-- Items that are numbered one behind the other.
use Rattle.std.proofs.Common.{◌≡◌, ℕ, ◌+◌, ◌<◌, List, [], ◌∷◌, ◌++◌, length, drop, get_or, sym, ap, ◌∙◌}
use Rattle.std.proofs.lemmas.List.{append_assoc, drop_more}
use Rattle.collect_items.specs.Items.{FixtureTable, item, items_from}
use Rattle.collect_items.specs.Nodes.{names_of, numbered}
use Rattle.collect_words.specs.declared.nodes.ItemNames.{ItemNames}
use Rattle.collect_rows.specs.declared.items.FoundItem.{FoundItem}
use Rattle.py_values.specs.declared.object.Obj.{Obj}
use Rattle.test_suite.specs.declared.item.Item.{Item}

pub numbered_on : (tests : List FoundItem) (i number next : ℕ) (test : FoundItem) (names more all : List ItemNames)
    → i < length tests → test ≡ get_or tests i test → names ++ numbered number (drop i tests) ≡ all → more ≡ names ++ names_of number test ∷ [] → next ≡ number + 1
    → more ++ numbered next (drop (i + 1) tests) ≡ all
numbered_on tests i number next test names more all l e is new n =
    ap (λ (k : ℕ). more ++ numbered k (drop (i + 1) tests)) n
    ∙ (ap (λ (ns : List ItemNames). ns ++ numbered (number + 1) (drop (i + 1) tests)) new
    ∙ (append_assoc names (names_of number test ∷ []) (numbered (number + 1) (drop (i + 1) tests))
    ∙ (ap (λ (t : FoundItem). names ++ numbered number (t ∷ drop (i + 1) tests)) e
    ∙ (ap (λ (ts : List FoundItem). names ++ numbered number ts) (sym (drop_more tests i test l)) ∙ is))))

-- the items of tests whose nodes follow one another
pub items_on : (heap : List Obj) (walk : List (List ℕ)) (f : FixtureTable) (tests : List FoundItem) (i node next : ℕ) (test : FoundItem) (items more all : List Item)
    → i < length tests → test ≡ get_or tests i test → items ++ items_from heap walk f node (drop i tests) ≡ all → more ≡ items ++ item heap walk f node test ∷ [] → next ≡ node + 1
    → more ++ items_from heap walk f next (drop (i + 1) tests) ≡ all
items_on heap walk f tests i node next test items more all l e is new n =
    ap (λ (k : ℕ). more ++ items_from heap walk f k (drop (i + 1) tests)) n
    ∙ (ap (λ (ns : List Item). ns ++ items_from heap walk f (node + 1) (drop (i + 1) tests)) new
    ∙ (append_assoc items (item heap walk f node test ∷ []) (items_from heap walk f (node + 1) (drop (i + 1) tests))
    ∙ (ap (λ (t : FoundItem). items ++ items_from heap walk f node (t ∷ drop (i + 1) tests)) e
    ∙ (ap (λ (ts : List FoundItem). items ++ items_from heap walk f node ts) (sym (drop_more tests i test l)) ∙ is))))
