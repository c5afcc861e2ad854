-- Elements that equal a value (Python library reference, common sequence operations). Each that is tested costs what equality costs on
-- it.
use Rattle.std.specs.Prelude.{ℕ, suc, ◌+◌, List, [], ◌∷◌, nat_lt, if◌then◌else◌, Option, Some, None}
use Rattle.list_methods.specs.declared.search.Search.{Search}
use Rattle.list_methods.specs.declared.search.Search.TheVariants as search
use Rattle.list_methods.specs.declared.search.Tally.{Tally}
use Rattle.list_methods.specs.declared.search.Tally.TheVariants as tally
use Rattle.py_compare.specs.Equal.{ComparisonResult, ComparisonVerdict, Holds, Fails, Deep, Unordered}
use Rattle.py_values.specs.declared.value.Value.{Value}

-- behind an element that was tested the search goes on, where it is unequal
abbrev pub search_by : ComparisonVerdict → ℕ → ℕ → (ℕ → Search) → Search
search_by Holds n i f = search.At i n
search_by Fails n i f = f n
search_by Deep n i f = search.TooDeep n
search_by Unordered n i f = search.TooDeep n

-- the first equal element, counted on from a place and behind so many steps
abbrev pub search_from : (Value → ComparisonResult) → ℕ → ℕ → List Value → Search
search_from f i n [] = search.Nowhere n
search_from f i n (x ∷ xs) = search_by (f x).verdict (n + (f x).cost) i (λ m. search_from f (suc i) m xs)

abbrev pub search_cost : Search → ℕ
search_cost (search.At i n) = n
search_cost (search.Nowhere n) = n
search_cost (search.TooDeep n) = n

abbrev pub search_within : ℕ → Search → Option Search
search_within budget s = if nat_lt budget (search_cost s) then None else Some s

-- behind an element that was tested the count goes on
abbrev pub tally_by : ComparisonVerdict → ℕ → ℕ → (ℕ → ℕ → Tally) → Tally
tally_by Holds n k f = f (suc k) n
tally_by Fails n k f = f k n
tally_by Deep n k f = tally.TooDeep n
tally_by Unordered n k f = tally.TooDeep n

-- the number of equal elements, counted on from one and behind so many steps
abbrev pub tally_from : (Value → ComparisonResult) → ℕ → ℕ → List Value → Tally
tally_from f k n [] = tally.Count k n
tally_from f k n (x ∷ xs) = tally_by (f x).verdict (n + (f x).cost) k (λ j m. tally_from f j m xs)

abbrev pub tally_cost : Tally → ℕ
tally_cost (tally.Count k n) = n
tally_cost (tally.TooDeep n) = n

abbrev pub tally_within : ℕ → Tally → Option Tally
tally_within budget t = if nat_lt budget (tally_cost t) then None else Some t
