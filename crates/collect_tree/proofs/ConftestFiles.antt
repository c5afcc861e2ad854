-- Conftests with their modules, one after another.
use Rattle.std.proofs.Common.{◌≡◌, ℕ, ◌+◌, ◌<◌, ◌≤◌, List, [], ◌∷◌, ◌++◌, length, drop, get_or, refl, sym, ap, ◌∙◌}
use Rattle.std.proofs.lemmas.List.{append_assoc, append-nil, drop_all, drop_more}
use Rattle.collect_tree.specs.Collection.{conftest_file, conftest_files}
use Rattle.collection_nodes.specs.declared.test_file.TestFile.{TestFile}
use Rattle.py_values.specs.declared.value.Value.{Value}

no_modules : (places : List ℕ) → conftest_files places [] ≡ []
no_modules [] = refl
no_modules (place ∷ places) = refl

pub files_end : (places : List ℕ) (modules : List Value) (i : ℕ) (done all : List TestFile)
    → done ++ conftest_files (drop i places) (drop i modules) ≡ all → length modules ≤ i → done ≡ all
files_end places modules i done all is l =
    sym (append-nil done)
    ∙ (ap (λ (fs : List TestFile). done ++ fs) (sym (no_modules (drop i places)))
    ∙ (ap (λ (ms : List Value). done ++ conftest_files (drop i places) ms) (sym (drop_all i modules l)) ∙ is))

pub files_on : (places : List ℕ) (modules : List Value) (i d : ℕ) (v : Value) (done more all : List TestFile) → i < length places → i < length modules → v ≡ get_or modules i v
    → done ++ conftest_files (drop i places) (drop i modules) ≡ all → more ≡ done ++ conftest_file (get_or places i d) v ∷ []
    → more ++ conftest_files (drop (i + 1) places) (drop (i + 1) modules) ≡ all
files_on places modules i d v done more all l m e is new =
    ap (λ (fs : List TestFile). fs ++ conftest_files (drop (i + 1) places) (drop (i + 1) modules)) new
    ∙ (append_assoc done (conftest_file (get_or places i d) v ∷ []) (conftest_files (drop (i + 1) places) (drop (i + 1) modules))
    ∙ (ap (λ (w : Value). done ++ conftest_files (get_or places i d ∷ drop (i + 1) places) (w ∷ drop (i + 1) modules)) e
    ∙ (ap (λ (ms : List Value). done ++ conftest_files (get_or places i d ∷ drop (i + 1) places) ms) (sym (drop_more modules i v m))
    ∙ (ap (λ (ps : List ℕ). done ++ conftest_files ps (drop i modules)) (sym (drop_more places i d l)) ∙ is))))
