-- How many definitions a table has.
use Rattle.std.proofs.Common.{◌≡◌, ℕ, suc, ◌+◌, List, [], ◌∷◌, length, refl, ap}
use Rattle.fixture_definitions.specs.declared.found.Definition.{Definition}
use Rattle.collect_fixtures.specs.Tables.{table_defs}

pub defs_count : (names : List (List ℕ)) (number : ℕ) (ds : List Definition) → length (table_defs names number ds) ≡ length ds
defs_count names number [] = refl
defs_count names number (d ∷ ds) = ap suc (defs_count names (number + 1) ds)
