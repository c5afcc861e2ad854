-- The files that code has made.
use Rattle.std.proofs.Common.{◌≡◌, ℕ, suc, ◌+◌, ◌-◌, ◌%◌, ◌<◌, ◌≤◌, List, [], ◌∷◌, ◌++◌, None, sym, ap, ap₂, ◌∙◌, subst, append_assoc, arith, Global}
use Rattle.std.proofs.lemmas.List.{map-append}
use Rattle.std.specs.Prelude.{String, decimal, string_bytes}
use Rattle.std.specs.declared.vec.Vec.{Vec}
use Rattle.edge_io.specs.Files.{File, InOrder, IsKept, file_of, files_of, paths_of, tree_limit}
use Rattle.generated_tree.proofs.Kept.{all_kept}
use Rattle.generated_tree.proofs.Order.{in_order}
use Rattle.generated_tree.proofs.Sizes.{no_limit}
use Rattle.generated_tree.proofs.Texts.{pieces_are_lines}
use Rattle.generated_tree.specs.Generated.{generated_conftest, generated_files, row_list, sequence_number, generated_test, generated_tests, test_path}
use Rattle.generated_tree.specs.Pieces.{in_pieces}

-- one file more, and one less to come
pub one_more : (seed k count number : ℕ) (pairs more : List (String Global × Vec ℕ Global)) (path : String Global) (text : Vec ℕ Global) (all : List File) → k < count → number ≡ sequence_number seed k
    → more ≡ pairs ++ (path, text) ∷ [] → string_bytes path ≡ test_path k → text.items ≡ in_pieces (decimal k) (row_list (1 + number % 5))
    → files_of pairs ++ generated_tests seed k (count - k) ≡ all → files_of more ++ generated_tests seed (k + 1) (count - (k + 1)) ≡ all
one_more seed k count number pairs more path text all lt is e p t inv =
    let left = count - (k + 1) in
    let rest = generated_tests seed (k + 1) left in
    let one : file_of (path, text) ≡ generated_test seed k =
    ap₂ (λ (a b : List ℕ). (a, b)) p (t ∙ (ap (λ (n : ℕ). in_pieces (decimal k) (row_list (1 + n % 5))) is ∙ pieces_are_lines k (1 + sequence_number seed k % 5))) in
    let many : suc left ≡ count - k = omega (arith, lt) in
    ap (λ (l : List (String Global × Vec ℕ Global)). files_of l ++ rest) e
    ∙ (ap (λ (l : List File). l ++ rest) (map-append file_of pairs ((path, text) ∷ []))
    ∙ (append_assoc (files_of pairs) (file_of (path, text) ∷ []) rest
    ∙ (ap (λ (f : File). files_of pairs ++ f ∷ rest) one
    ∙ (ap (λ (n : ℕ). files_of pairs ++ generated_tests seed k n) many ∙ inv))))

-- the whole tree
pub whole : (seed count : ℕ) (first files : List File) → first ≡ generated_conftest ∷ [] → files ≡ first ++ generated_tests seed 0 count → files ≡ generated_files seed count
whole seed count first files e f = f ∙ ap (λ (l : List File). l ++ generated_tests seed 0 count) e

pub whole_in_order : (seed count : ℕ) (files : List File) → count ≤ 4000 → files ≡ generated_files seed count → InOrder (paths_of files)
whole_in_order seed count files few e = subst (λ (l : List File). InOrder (paths_of l)) (sym e) (in_order seed count (omega (arith, few)))

pub whole_kept : (seed count : ℕ) (files : List File) → count ≤ 4000 → files ≡ generated_files seed count → IsKept files files
whole_kept seed count files few e = subst (λ (l : List File). IsKept l l) (sym e) (all_kept seed count (omega (arith, few)))

pub whole_fits : (seed count : ℕ) (files : List File) → count ≤ 4000 → files ≡ generated_files seed count → tree_limit files ≡ None
whole_fits seed count files few e = ap (λ (l : List File). tree_limit l) e ∙ no_limit seed count few
