-- The files pass no limit of a tree.
use Rattle.std.proofs.Common.{◌≡◌, ℕ, zero, suc, ◌+◌, ◌*◌, ◌%◌, ◌<◌, ◌≤◌, cond, length, None, Some, Option, refl, ap, ◌∙◌, arith}
use Rattle.std.proofs.lemmas.Bool.{le-ltb}
use Rattle.std.proofs.lemmas.Fmt.{length-decimal-le}
use Rattle.std.specs.Prelude.{decimal, nat_lt}
use Rattle.edge_io.specs.Files.{File, LargeFile, LargeTree, ManyFiles, TreeLimit, file_most, files_most, limit_at, size_limit, sooner, tree_limit, tree_most}
use Rattle.generated_tree.proofs.Rows.{short_rows}
use Rattle.generated_tree.proofs.Texts.{pieces_are_lines, pieces_short}
use Rattle.generated_tree.specs.Generated.{conftest_text, generated_files, row_count, row_list, sequence_number, generated_tests, test_text}

test_size : (k n : ℕ) → k < 10000 → n < 5 → length (test_text k (1 + n)) ≤ 400
test_size k n lt few =
    let e = ap length (pieces_are_lines k (1 + n)) in
    let short = pieces_short (decimal k) (row_list (1 + n)) (length-decimal-le 4 k (omega arith) lt (omega (arith, lt))) (short_rows n few) in
    omega (arith, e, short)

limit_none : (before : ℕ) (file : File) → length file.1 ≤ 400 → before ≤ 8000000 → limit_at before file ≡ None
limit_none before file short few =
    ap (λ b. cond b (Some (LargeFile file.0)) (cond (nat_lt tree_most (before + length file.1)) (Some LargeTree) None)) (le-ltb file_most (length file.1) (omega (arith, short)))
    ∙ ap (λ b. cond b (Some LargeTree) None) (le-ltb tree_most (before + length file.1) (omega (arith, short, few)))

sizes : (seed k count before : ℕ) → k + count ≤ 10000 → before ≤ 400 * (k + 1) → size_limit before (generated_tests seed k count) ≡ None
sizes seed k zero before few low = refl
sizes seed k (suc count) before few low =
    let short = test_size k (sequence_number seed k % 5) (omega (arith, few)) (omega arith) in
    let text = test_text k (row_count seed k) in
    ap (λ (l : Option TreeLimit). sooner l (size_limit (before + length text) (generated_tests seed (k + 1) count))) (limit_none before _ short (omega (arith, few, low)))
    ∙ sizes seed (k + 1) count (before + length text) (omega (arith, few)) (omega (arith, short, low))

conftest_size : length conftest_text ≤ 400
unfolding conftest_text
conftest_size = omega arith

how_many : (seed k count : ℕ) → length (generated_tests seed k count) ≡ count
how_many seed k zero = refl
how_many seed k (suc count) = ap suc (how_many seed (k + 1) count)

pub no_limit : (seed count : ℕ) → count ≤ 4000 → tree_limit (generated_files seed count) ≡ None
unfolding tree_limit
no_limit seed count few =
    let many = how_many seed 0 count in
    ap (λ b. cond b (Some ManyFiles) (size_limit 0 (generated_files seed count))) (le-ltb files_most (length (generated_files seed count)) (omega (arith, many, few)))
    ∙ (ap (λ (l : Option TreeLimit). sooner l (size_limit (0 + length conftest_text) (generated_tests seed 0 count))) (limit_none 0 _ conftest_size (omega arith))
    ∙ sizes seed 0 count (0 + length conftest_text) (omega (arith, few)) (let s = conftest_size in omega (arith, s)))
