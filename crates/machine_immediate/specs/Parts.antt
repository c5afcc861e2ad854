-- The part of a list at a place.
use Rattle.std.specs.Prelude.{ℕ, ◌+◌, ◌<◌, ◌≡◌, List, [], ◌∷◌, length, drop, Option, Some, None}
use Rattle.std.specs.declared.alloc.Global.{Global}
use Rattle.std.specs.declared.rc.Rc.{Rc}
use Rattle.std.specs.declared.vec.Vec.{Vec}
use Rattle.py_core.specs.declared.expr.CoreExpr.{CoreExpr}
use Rattle.py_tree.specs.declared.op.CmpOp.{CmpOp}
use Rattle.machine_state.specs.core_meaning.Expressions.{eval}
use Rattle.machine_state.specs.Places.{parts_from}
use Rattle.machine_state.specs.Work.{weight, weight_from}

abbrev pub IsNext : Option (Rc CoreExpr Global) → ℕ → Rc (Vec (Rc CoreExpr Global) Global) Global → Type 0
IsNext None at es = parts_from at es ≡ []
IsNext (Some e) at es =
    (parts_from at es ≡ eval e.value ∷ parts_from (at + 1) es)
    × ((weight_from at es ≡ weight e.value + 1 + weight_from (at + 1) es) × (at < length es.value.items))

abbrev pub IsNextOp : Option CmpOp → ℕ → List CmpOp → Type 0
IsNextOp None at ops = drop at ops ≡ []
IsNextOp (Some op) at ops = drop at ops ≡ op ∷ drop (at + 1) ops
