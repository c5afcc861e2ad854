-- Statements whose expression's value is there at once.
use Rattle.std.proofs.Common.{◌≡◌, ◌∙◌, Option, Some, IfSome, drop, ap}
use Rattle.std.specs.declared.alloc.Global.{Global}
use Rattle.std.specs.declared.rc.Rc.{Rc}
use Rattle.std.specs.declared.vec.Vec.{Vec}
use Rattle.py_core.specs.declared.expr.CoreExpr.{CoreExpr}
use Rattle.py_core.specs.declared.stmt.CoreTarget.{CoreTarget}
use Rattle.assert_explain.specs.py_world.Outcome.{Next, Returned, on_value}
use Rattle.assert_explain.specs.py_world.Statements.{expression_statement, return_value}
use Rattle.assert_explain.specs.py_world.Targets.{assign, store_all}
use Rattle.machine_unwind.specs.core_meaning.Expressions.{eval}
use Rattle.machine_unwind.specs.core_meaning.Statements.{stores}
use Rattle.machine_unwind.specs.machine_state.declared.machine.Machine.{Machine}
use Rattle.machine_unwind.specs.machine_state.Places.{ends}
use Rattle.machine_unwind.specs.machine_state.Frames.{machine_rest, site_now, state_of}
use Rattle.machine_store.specs.machine_immediate.declared.immediate.Immediate.{Immediate}
use Rattle.machine_store.specs.machine_immediate.AtOnce.{IsImmediate}
use Rattle.machine_store.proofs.Immediately.{goes}

module _ (m : Machine) (e : Rc CoreExpr Global) (e' : CoreExpr) (rx : Option Immediate) (x : Immediate) (same : e' ≡ e.value) (is : rx ≡ Some x) (h : IfSome rx (λ d. IsImmediate (eval e') m.left d m)) where
  pub expression_there : ends x.left (machine_rest m (Next (state_of m))) ≡ ends m.left (expression_statement (eval e.value) (site_now m) (state_of m) (machine_rest m))
  expression_there = goes m e e' rx x same is h (λ o. on_value o (machine_rest m) (λ v s. machine_rest m (Next s)))

  pub return_there : ends x.left (machine_rest m (Returned x.value (state_of m))) ≡ ends m.left (return_value (Some (eval e.value)) (site_now m) (state_of m) (machine_rest m))
  return_there = goes m e e' rx x same is h (λ o. on_value o (machine_rest m) (λ v s. machine_rest m (Returned v s)))

  pub assign_there : (ts ts' : Rc (Vec CoreTarget Global) Global) → ts'.value ≡ ts.value
      → ends x.left (store_all (stores (drop 0 ts'.value.items)) x.value (site_now m) (state_of m) (machine_rest m)) ≡ ends m.left (assign (stores ts.value.items) (eval e.value) (site_now m) (state_of m) (machine_rest m))
  assign_there ts ts' copied =
      ap (λ (v : Vec CoreTarget Global). ends x.left (store_all (stores v.items) x.value (site_now m) (state_of m) (machine_rest m))) copied
      ∙ goes m e e' rx x same is h (λ o. on_value o (machine_rest m) (λ v s. store_all (stores ts.value.items) v (site_now m) s (machine_rest m)))
