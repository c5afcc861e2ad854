-- The pieces of a text are its lines.
use Rattle.std.proofs.Common.{◌≡◌, ℕ, ◌+◌, ◌≤◌, List, [], ◌∷◌, ◌++◌, length, sym, ap, ◌∙◌, append_assoc, arith}
use Rattle.std.proofs.lemmas.List.{length-append}
use Rattle.std.specs.Prelude.{codes, decimal}
use Rattle.generated_tree.specs.Generated.{mod_lines, num_lines, of_lines, row_list, sum_lines, test_text}
use Rattle.generated_tree.specs.Pieces.{before_number, before_rows, behind_rows, behind_tests, between_tests, in_pieces}

-- a text, what stands behind it in its line, and the lines behind that
line_of : (text back rest : List ℕ) → ((text ++ back) ++ 10 ∷ []) ++ rest ≡ text ++ (back ++ 10 ∷ rest)
line_of text back rest = append_assoc (text ++ back) (10 ∷ []) rest ∙ append_assoc text back (10 ∷ rest)

abbrev num_front : List ℕ
num_front = codes "import pytest\n\n\n@pytest.fixture\ndef num(base):\n    yield base + "

num_whole : (k : ℕ) → of_lines (num_lines k) ≡ num_front ++ (decimal k ++ codes "\n\n\n")
num_whole k = ap (λ (l : List ℕ). num_front ++ l) (append_assoc (decimal k) (10 ∷ []) (10 ∷ 10 ∷ []))

abbrev sum_front : List ℕ
sum_front = codes "@pytest.mark.parametrize(\"x\", ["

abbrev sum_middle : List ℕ
sum_middle = codes "])\ndef test_sum(num, x):\n    assert num + x == 7 + "

sum_whole : (k rows : ℕ) → of_lines (sum_lines k rows) ≡ sum_front ++ (row_list rows ++ (sum_middle ++ (decimal k ++ codes " + x\n\n\n")))
sum_whole k rows =
    let behind : List ℕ = codes "def test_sum(num, x):\n    assert num + x == 7 + " ++ (((decimal k ++ codes " + x") ++ 10 ∷ []) ++ (10 ∷ 10 ∷ [])) in
    ap (λ (l : List ℕ). sum_front ++ l) (line_of (row_list rows) (codes "])") behind)
    ∙ ap (λ (l : List ℕ). sum_front ++ (row_list rows ++ (sum_middle ++ l))) (line_of (decimal k) (codes " + x") (10 ∷ 10 ∷ []))

abbrev mod_front : List ℕ
mod_front = codes "def test_mod(num):\n    assert num % 3 == (7 + "

mod_whole : (k : ℕ) → of_lines (mod_lines k) ≡ mod_front ++ (decimal k ++ codes ") % 3\n")
mod_whole k = ap (λ (l : List ℕ). mod_front ++ l) (line_of (decimal k) (codes ") % 3") [])

-- two texts with a text between them, and what is behind
joint : (front piece back behind : List ℕ) → (front ++ (piece ++ back)) ++ behind ≡ front ++ (piece ++ (back ++ behind))
joint front piece back behind = append_assoc front (piece ++ back) behind ∙ ap (λ (l : List ℕ). front ++ l) (append_assoc piece back behind)

pub pieces_are_lines : (k rows : ℕ) → in_pieces (decimal k) (row_list rows) ≡ test_text k rows
unfolding test_text before_number before_rows behind_rows between_tests behind_tests
pieces_are_lines k rows =
    let tests : List ℕ = mod_front ++ (decimal k ++ codes ") % 3\n") in
    let late : List ℕ = sum_middle ++ (decimal k ++ codes " + x\n\n\n") in
    sym (
    ap (λ (l : List ℕ). of_lines (num_lines k) ++ (of_lines (sum_lines k rows) ++ l)) (mod_whole k)
    ∙ ap (λ (l : List ℕ). of_lines (num_lines k) ++ (l ++ tests)) (sum_whole k rows)
    ∙ ap (λ (l : List ℕ). l ++ ((sum_front ++ (row_list rows ++ late)) ++ tests)) (num_whole k)
    ∙ ap (λ (l : List ℕ). (num_front ++ (decimal k ++ codes "\n\n\n")) ++ l) (joint sum_front (row_list rows) late tests ∙ ap (λ (l : List ℕ). sum_front ++ (row_list rows ++ l)) (joint sum_middle (decimal k) (codes " + x\n\n\n") tests))
    ∙ joint num_front (decimal k) (codes "\n\n\n") (sum_front ++ (row_list rows ++ (sum_middle ++ (decimal k ++ (codes " + x\n\n\n" ++ tests))))))

-- ITS LENGTH

pieces_length : (number rows : List ℕ) → length (in_pieces number rows) ≡ length before_number + (length number + (length before_rows + (length rows + (length behind_rows + (length number + (length between_tests + (length number + length behind_tests)))))))
pieces_length number rows = simp length-append

fixed : (length before_number ≤ 80) × (length before_rows ≤ 50) × (length behind_rows ≤ 80) × (length between_tests ≤ 80) × (length behind_tests ≤ 10)
unfolding before_number before_rows behind_rows between_tests behind_tests
fixed = (omega arith, omega arith, omega arith, omega arith, omega arith)

pub pieces_short : (number rows : List ℕ) → length number ≤ 4 → length rows ≤ 13 → length (in_pieces number rows) ≤ 400
pieces_short number rows few less = (let e = pieces_length number rows in let f = fixed in omega (arith, e, f.0, f.1, f.2, f.3, f.4, few, less))
