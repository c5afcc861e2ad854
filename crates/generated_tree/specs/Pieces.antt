-- The text of a file in the pieces between its numbers, as code writes it.
use Rattle.std.specs.Prelude.{ℕ, List, ◌++◌, codes}

unfoldable pub before_number : List ℕ
before_number = codes "import pytest\n\n\n@pytest.fixture\ndef num(base):\n    yield base + "

unfoldable pub before_rows : List ℕ
before_rows = codes "\n\n\n@pytest.mark.parametrize(\"x\", ["

unfoldable pub behind_rows : List ℕ
behind_rows = codes "])\ndef test_sum(num, x):\n    assert num + x == 7 + "

unfoldable pub between_tests : List ℕ
between_tests = codes " + x\n\n\ndef test_mod(num):\n    assert num % 3 == (7 + "

unfoldable pub behind_tests : List ℕ
behind_tests = codes ") % 3\n"

abbrev pub in_pieces : List ℕ → List ℕ → List ℕ
in_pieces number rows = before_number ++ (number ++ (before_rows ++ (rows ++ (behind_rows ++ (number ++ (between_tests ++ (number ++ behind_tests)))))))
