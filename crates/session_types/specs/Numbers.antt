-- Lists of numbers.
use Rattle.std.specs.Prelude.{ℕ, zero, suc, ◌==◌, Bool, ◌||◌, List, [], ◌∷◌, ◌++◌, max, if◌then◌else◌}
use Rattle.std.specs.List.{list_any}

-- whether k stands there
abbrev pub among : ℕ → List ℕ → Bool
among k xs = list_any (λ x. x == k) xs

-- with k, which stands there once
abbrev pub with_number : ℕ → List ℕ → List ℕ
with_number k ks = if among k ks then ks else ks ++ k ∷ []

abbrev pub with_numbers : List ℕ → List ℕ → List ℕ
with_numbers [] ks = ks
with_numbers (x ∷ xs) ks = with_numbers xs (with_number x ks)

-- those below a number of which p holds, the greatest first
abbrev pub numbers_where : (ℕ → Bool) → ℕ → List ℕ
numbers_where p zero = []
numbers_where p (suc n) = if p n then n ∷ numbers_where p n else numbers_where p n

-- a number above all of these
abbrev pub above : List ℕ → ℕ
above [] = 0
above (x ∷ xs) = max (suc x) (above xs)

-- the numbers of both, each once, the greatest first
abbrev pub joined : List ℕ → List ℕ → List ℕ
joined xs ks = numbers_where (λ n. among n xs || among n ks) (max (above xs) (above ks))
