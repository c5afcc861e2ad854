-- The lines above the progress.
use Rattle.std.specs.Prelude.{ℕ, ◌+◌, List, [], ◌++◌, codes, decimal, ◌==◌, if◌then◌else◌}
use Rattle.texts.specs.Texts.{counted, title}

-- what stands behind a number of items: the errors of collection, and what was deselected
unfoldable pub errors_behind : ℕ → List ℕ
errors_behind errors = if errors == 0 then [] else codes " / " ++ counted errors (codes "error")

unfoldable pub selection_behind : ℕ → ℕ → List ℕ
selection_behind selected deselected =
    if deselected == 0 then [] else codes " / " ++ (decimal deselected ++ (codes " deselected / " ++ (decimal selected ++ codes " selected")))

unfoldable pub collected_line : ℕ → ℕ → ℕ → List ℕ
collected_line selected deselected errors =
    codes "collected " ++ (counted (selected + deselected) (codes "item") ++ (errors_behind errors ++ (selection_behind selected deselected ++ codes "\n")))

unfoldable pub workers_line : ℕ → ℕ → List ℕ
workers_line selected workers =
    if workers == 0 then [] else counted workers (codes "worker") ++ (codes " [" ++ (counted selected (codes "item") ++ codes "]\n"))

-- the title, the numbers, the workers where there are some, and an empty line
unfoldable pub head_of : ℕ → ℕ → ℕ → ℕ → List ℕ
head_of selected deselected errors workers =
    title 61 (codes "test session starts") ++ (collected_line selected deselected errors ++ (workers_line selected workers ++ codes "\n"))
