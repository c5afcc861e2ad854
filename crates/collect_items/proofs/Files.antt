-- What comes of one file more.
use Rattle.std.proofs.Common.{◌≡◌, ℕ, ◌+◌, ◌<◌, List, [], ◌∷◌, ◌++◌, Option, length, map, drop, get_or, sym, ap, ◌∙◌, arith}
use Rattle.std.proofs.lemmas.List.{append_assoc, append-nil, drop_more, length-append}
use Rattle.collect_items.specs.Items.{FixtureTable, all_items, fault_of_file, file_found, files_found, items_of_file}
use Rattle.collect_items.specs.Nodes.{all_nodes, nodes_of}
use Rattle.collect_items.specs.declared.found.FoundFile.{FoundFile}
use Rattle.collect_rows.specs.declared.items.FoundItem.{FoundItem}
use Rattle.collect_rows.specs.declared.items.RowsFault.{RowsFault}
use Rattle.collect_words.specs.declared.nodes.FileNodes.{FileNodes}
use Rattle.collection_nodes.specs.declared.placed_file.PlacedFile.{PlacedFile}
use Rattle.fixture_definitions.specs.Tests.{tests_of}
use Rattle.py_values.specs.declared.object.Obj.{Obj}

-- of one file behind others

pub items_behind : (files : List FoundFile) (x : FoundFile) → all_items (files ++ x ∷ []) ≡ all_items files ++ items_of_file x
items_behind [] x = append-nil (items_of_file x)
items_behind (file ∷ files) x =
    ap (λ (items : List FoundItem). items_of_file file ++ items) (items_behind files x) ∙ sym (append_assoc (items_of_file file) (all_items files) (items_of_file x))

nodes_from : (files : List FoundFile) (n : ℕ) (x : FoundFile) → all_nodes n (files ++ x ∷ []) ≡ all_nodes n files ++ (x.file.place, nodes_of (n + length (all_items files)) x) ∷ []
nodes_from [] n x = (let same : n ≡ n + 0 = omega arith in ap (λ (k : ℕ). (x.file.place, nodes_of k x) ∷ []) same)
nodes_from (file ∷ files) n x =
    let many : n + length (items_of_file file) + length (all_items files) ≡ n + length (items_of_file file ++ all_items files) = omega (arith, length-append (items_of_file file) (all_items files)) in
    ap (λ (rest : List (ℕ × FileNodes)). (file.file.place, nodes_of n file) ∷ rest)
    (nodes_from files (n + length (items_of_file file)) x
    ∙ ap (λ (k : ℕ). all_nodes (n + length (items_of_file file)) files ++ (x.file.place, nodes_of k x) ∷ []) many)

pub nodes_behind : (files : List FoundFile) (x : FoundFile) → all_nodes 0 (files ++ x ∷ []) ≡ all_nodes 0 files ++ (x.file.place, nodes_of (length (all_items files)) x) ∷ []
nodes_behind files x =
    let same : 0 + length (all_items files) ≡ length (all_items files) = omega arith in
    nodes_from files 0 x ∙ ap (λ (k : ℕ). all_nodes 0 files ++ (x.file.place, nodes_of k x) ∷ []) same

module _ (heap : List Obj) (f : FixtureTable) where
  abbrev Walk : ℕ → List PlacedFile → List FoundFile
  Walk = files_found heap f

  -- the file at a place is the first of those that are left
  left : (placed : List PlacedFile) (i node : ℕ) (d : PlacedFile) → i < length placed
      → file_found heap f node (get_or placed i d) ∷ Walk (node + length (tests_of heap (get_or placed i d))) (drop (i + 1) placed) ≡ Walk node (drop i placed)
  left placed i node d l = ap (Walk node) (sym (drop_more placed i d l))

  pub items_of_more : (placed : List PlacedFile) (i node next : ℕ) (d : PlacedFile) (done more all : List FoundItem)
      → i < length placed → done ++ all_items (Walk node (drop i placed)) ≡ all → more ≡ done ++ items_of_file (file_found heap f node (get_or placed i d))
      → next ≡ node + length (tests_of heap (get_or placed i d)) → more ++ all_items (Walk next (drop (i + 1) placed)) ≡ all
  items_of_more placed i node next d done more all l is new n =
      let one = file_found heap f node (get_or placed i d) in
      let rest = Walk (node + length (tests_of heap (get_or placed i d))) (drop (i + 1) placed) in
      ap (λ (k : ℕ). more ++ all_items (Walk k (drop (i + 1) placed))) n
      ∙ (ap (λ (xs : List FoundItem). xs ++ all_items rest) new
      ∙ (append_assoc done (items_of_file one) (all_items rest)
      ∙ (ap (λ (fs : List FoundFile). done ++ all_items fs) (left placed i node d l) ∙ is)))

  abbrev Beside : Type 0
  Beside = List (ℕ × FileNodes)

  pub nodes_of_more : (placed : List PlacedFile) (i node next number after : ℕ) (d : PlacedFile) (done more all : Beside)
      → i < length placed → done ++ all_nodes number (Walk node (drop i placed)) ≡ all
      → more ≡ done ++ ((get_or placed i d).file.place, nodes_of number (file_found heap f node (get_or placed i d))) ∷ []
      → after ≡ number + length (items_of_file (file_found heap f node (get_or placed i d)))
      → next ≡ node + length (tests_of heap (get_or placed i d)) → more ++ all_nodes after (Walk next (drop (i + 1) placed)) ≡ all
  nodes_of_more placed i node next number after d done more all l is new count n =
      let one = file_found heap f node (get_or placed i d) in
      let rest = Walk (node + length (tests_of heap (get_or placed i d))) (drop (i + 1) placed) in
      ap (λ (k : ℕ). more ++ all_nodes after (Walk k (drop (i + 1) placed))) n
      ∙ (ap (λ (k : ℕ). more ++ all_nodes k rest) count
      ∙ (ap (λ (xs : Beside). xs ++ all_nodes (number + length (items_of_file one)) rest) new
      ∙ (append_assoc done ((one.file.place, nodes_of number one) ∷ []) (all_nodes (number + length (items_of_file one)) rest)
      ∙ (ap (λ (fs : List FoundFile). done ++ all_nodes number fs) (left placed i node d l) ∙ is))))

  pub faults_of_more : (placed : List PlacedFile) (i node next : ℕ) (d : PlacedFile) (done more all : List (Option RowsFault))
      → i < length placed → done ++ map fault_of_file (Walk node (drop i placed)) ≡ all → more ≡ done ++ fault_of_file (file_found heap f node (get_or placed i d)) ∷ []
      → next ≡ node + length (tests_of heap (get_or placed i d)) → more ++ map fault_of_file (Walk next (drop (i + 1) placed)) ≡ all
  faults_of_more placed i node next d done more all l is new n =
      let one = file_found heap f node (get_or placed i d) in
      let rest = Walk (node + length (tests_of heap (get_or placed i d))) (drop (i + 1) placed) in
      ap (λ (k : ℕ). more ++ map fault_of_file (Walk k (drop (i + 1) placed))) n
      ∙ (ap (λ (xs : List (Option RowsFault)). xs ++ map fault_of_file rest) new
      ∙ (append_assoc done (fault_of_file one ∷ []) (map fault_of_file rest)
      ∙ (ap (λ (fs : List FoundFile). done ++ map fault_of_file fs) (left placed i node d l) ∙ is)))
