-- The numbers of what was given.
use Rattle.std.specs.Prelude.{ℕ, List, [], ◌∷◌}
use Rattle.session_types.specs.Numbers.{joined, with_number}
use Rattle.setup_stack.specs.declared.answers.Grant.{Grant}

-- the numbers of these, each once
abbrev pub orders_of : {V : Type 0} → List (Grant V) → List ℕ → List ℕ
orders_of [] ks = ks
orders_of (g ∷ gs) ks = orders_of gs (with_number g.order ks)

-- the numbers of these and of all on which they depend, each once, the greatest first
abbrev pub bases_of : {V : Type 0} → List (Grant V) → List ℕ → List ℕ
bases_of [] ks = ks
bases_of (g ∷ gs) ks = bases_of gs (joined g.bases (joined (g.order ∷ []) ks))
