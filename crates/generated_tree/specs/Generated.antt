-- THE GENERATED TREE: a conftest with a fixture, and files with tests of it, whose numbers follow from a seed.
use Rattle.std.specs.Prelude.{ℕ, zero, suc, ◌+◌, ◌*◌, ◌/◌, ◌%◌, List, [], ◌∷◌, ◌++◌, codes, decimal, flat_map}
use Rattle.edge_io.specs.Files.{File}
use Rattle.texts.specs.Texts.{ended, joined}

-- the k-th number behind a seed (a linear congruential sequence)
abbrev pub sequence_number : ℕ → ℕ → ℕ
sequence_number seed zero = seed
sequence_number seed (suc k) = (13 * sequence_number seed k + 7) % 65536

-- how often the first test of file k is run: from 1 to 5
abbrev pub row_count : ℕ → ℕ → ℕ
row_count seed k = 1 + sequence_number seed k % 5

-- so many numbers, from this one on
abbrev pub decimals_from : ℕ → ℕ → List (List ℕ)
decimals_from n zero = []
decimals_from n (suc count) = decimal n ∷ decimals_from (n + 1) count

-- `0, 1, 2`
abbrev pub row_list : ℕ → List ℕ
row_list count = joined (codes ", ") (decimals_from 0 count)

-- THE TEXTS, line by line

abbrev pub of_lines : List (List ℕ) → List ℕ
of_lines lines = flat_map ended lines

abbrev pub conftest_lines : List (List ℕ)
conftest_lines =
    codes "import pytest"
    ∷ []
    ∷ []
    ∷ codes "@pytest.fixture(scope=\"session\")"
    ∷ codes "def base():"
    ∷ codes "    yield 7"
    ∷ []

abbrev pub num_lines : ℕ → List (List ℕ)
num_lines k =
    codes "import pytest"
    ∷ []
    ∷ []
    ∷ codes "@pytest.fixture"
    ∷ codes "def num(base):"
    ∷ (codes "    yield base + " ++ decimal k)
    ∷ []
    ∷ []
    ∷ []

abbrev pub sum_lines : ℕ → ℕ → List (List ℕ)
sum_lines k rows =
    (codes "@pytest.mark.parametrize(\"x\", [" ++ (row_list rows ++ codes "])"))
    ∷ codes "def test_sum(num, x):"
    ∷ (codes "    assert num + x == 7 + " ++ (decimal k ++ codes " + x"))
    ∷ []
    ∷ []
    ∷ []

abbrev pub mod_lines : ℕ → List (List ℕ)
mod_lines k =
    codes "def test_mod(num):"
    ∷ (codes "    assert num % 3 == (7 + " ++ (decimal k ++ codes ") % 3"))
    ∷ []

unfoldable pub conftest_text : List ℕ
conftest_text = of_lines conftest_lines

-- file k, whose first test is run so often
unfoldable pub test_text : ℕ → ℕ → List ℕ
test_text k rows = of_lines (num_lines k) ++ (of_lines (sum_lines k rows) ++ of_lines (mod_lines k))

-- THE FILES

-- a number below 10,000 in four digits
abbrev pub four_digits : ℕ → List ℕ
four_digits n = (48 + n / 1000) ∷ (48 + n / 100 % 10) ∷ (48 + n / 10 % 10) ∷ (48 + n % 10) ∷ []

unfoldable pub test_path : ℕ → List ℕ
test_path k = codes "test_g" ++ (four_digits k ++ codes ".py")

abbrev pub generated_test : ℕ → ℕ → File
generated_test seed k = (test_path k, test_text k (row_count seed k))

-- so many, from file k on
abbrev pub generated_tests : ℕ → ℕ → ℕ → List File
generated_tests seed k zero = []
generated_tests seed k (suc count) = generated_test seed k ∷ generated_tests seed (k + 1) count

abbrev pub generated_conftest : File
generated_conftest = (codes "conftest.py", conftest_text)

abbrev pub generated_files : ℕ → ℕ → List File
generated_files seed count = generated_conftest ∷ generated_tests seed 0 count
