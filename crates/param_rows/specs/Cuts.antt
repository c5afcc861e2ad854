-- The first stretch of a list.
use Rattle.std.specs.Prelude.{ℕ, suc, Bool, List, [], ◌∷◌, if◌then◌else◌}

-- how long the first run of neighbours is that are the same
abbrev pub run_len : {A : Type 0} → (A → A → Bool) → List A → ℕ
run_len same [] = 0
run_len same (x ∷ []) = 1
run_len same (x ∷ y ∷ ys) = if same x y then suc (run_len same (y ∷ ys)) else 1
