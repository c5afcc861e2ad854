-- The parts of a dict's display by their places.
use Rattle.std.specs.Prelude.{ℕ, ◌+◌, ◌≡◌, List, [], ◌∷◌, drop, Option, Some, None}
use Rattle.std.specs.declared.alloc.Global.{Global}
use Rattle.std.specs.declared.rc.Rc.{Rc}
use Rattle.std.specs.declared.vec.Vec.{Vec}
use Rattle.py_core.specs.declared.expr.CoreExpr.{CoreExpr}
use Rattle.machine_state.specs.py_world.Displays.{in_pairs}
use Rattle.std.specs.List.{sum_by}
use Rattle.machine_state.specs.core_meaning.Expressions.{CorePart, eval}
use Rattle.machine_state.specs.Places.{parts_from}
use Rattle.machine_state.specs.Work.{weight}

-- the keys of a dict's display from a place on, each with its value behind it
abbrev pub pairs_from : ℕ → Rc (Vec (Rc CoreExpr Global) Global) Global → Rc (Vec (Rc CoreExpr Global) Global) Global → List CorePart
pairs_from at ks es = drop at (in_pairs (parts_from 0 ks) (parts_from 0 es))

-- and what they weigh
abbrev pub pairs_weight : ℕ → Rc (Vec (Rc CoreExpr Global) Global) Global → Rc (Vec (Rc CoreExpr Global) Global) Global → ℕ
pairs_weight at ks es = sum_by (λ e. weight e.value + 1) (drop at (in_pairs ks.value.items es.value.items))

abbrev pub IsNextPair : Option (Rc CoreExpr Global) → ℕ → Rc (Vec (Rc CoreExpr Global) Global) Global → Rc (Vec (Rc CoreExpr Global) Global) Global → Type 0
IsNextPair None at ks es = pairs_from at ks es ≡ []
IsNextPair (Some e) at ks es =
    (pairs_from at ks es ≡ eval e.value ∷ pairs_from (at + 1) ks es) × (pairs_weight at ks es ≡ weight e.value + 1 + pairs_weight (at + 1) ks es)
