-- Parts whose value is there at once, and what follows it.
use Rattle.std.proofs.Common.{◌≡◌, ◌≤◌, ◌∙◌, ℕ, List, Option, Some, IfSome, sym, ap}
use Rattle.std.specs.declared.alloc.Global.{Global}
use Rattle.std.specs.declared.rc.Rc.{Rc}
use Rattle.py_core.specs.declared.expr.CoreExpr.{CoreExpr}
use Rattle.py_values.specs.declared.value.Value.{Value}
use Rattle.py_tree.specs.declared.op.BinOp.{BinOp}
use Rattle.py_ops.specs.Binary.{augmented_of}
use Rattle.machine_assign.specs.py_world.Outcome.{Gave, on_value, operated}
use Rattle.machine_assign.specs.py_world.Targets.{augmented, augment_on, store_name}
use Rattle.machine_assign.specs.core_meaning.Expressions.{eval}
use Rattle.machine_assign.specs.machine_state.declared.machine.Machine.{Machine}
use Rattle.machine_assign.specs.machine_state.Places.{CoreThen, ends}
use Rattle.machine_assign.specs.machine_state.Frames.{machine_rest, site_now, state_of}
use Rattle.machine_immediate.specs.declared.immediate.Immediate.{Immediate}
use Rattle.machine_immediate.specs.AtOnce.{IsImmediate}
use Rattle.machine_immediate.proofs.AtOnces.{found}

module _ (m : Machine) (e : Rc CoreExpr Global) (e' : CoreExpr) (rx : Option Immediate) (x : Immediate) (same : e' ≡ e.value) (is : rx ≡ Some x) (h : IfSome rx (λ d. IsImmediate (eval e') m.left d m)) where
  there : IsImmediate (eval e') m.left x m
  there = found m (eval e') m.left rx x is h

  pub goes : (k : CoreThen) → ends x.left (k (Gave x.value (state_of m))) ≡ ends m.left (eval e.value (site_now m) (state_of m) k)
  goes k = sym (there.goes_on k) ∙ ap (λ (y : CoreExpr). ends m.left (eval y (site_now m) (state_of m) k)) same

  pub fewer : x.left ≤ m.left
  fewer = there.fewer

  pub augment_there : (y : Value) (name : List ℕ) (op : BinOp)
      → ends x.left (augmented y op x.value (store_name name) (site_now m) (state_of m) (machine_rest m)) ≡ ends m.left (augment_on y op (eval e.value) (store_name name) (site_now m) (state_of m) (machine_rest m))
  augment_there y name op = goes (λ o. on_value o (machine_rest m) (λ z s. augmented y op z (store_name name) (site_now m) s (machine_rest m)))

-- an augmented assignment whose operator's value is there at once
pub augmented_there : (m : Machine) (x y : Value) (op : BinOp) (name : List ℕ) (r : Option Immediate) (d : Immediate) → r ≡ Some d → IfSome r (λ d. IsImmediate (operated (augmented_of op m.heap x y)) m.left d m)
    → ends d.left (store_name name d.value (site_now m) (state_of m) (machine_rest m)) ≡ ends m.left (augmented x op y (store_name name) (site_now m) (state_of m) (machine_rest m))
augmented_there m x y op name r d is h =
    let i : IsImmediate (operated (augmented_of op m.heap x y)) m.left d m = found m (operated (augmented_of op m.heap x y)) m.left r d is h in
    sym (i.goes_on (λ o. on_value o (machine_rest m) (λ v s. store_name name v (site_now m) s (machine_rest m))))

-- what is there behind the operator
pub augmented_fewer : (m : Machine) (x y : Value) (op : BinOp) (r : Option Immediate) (d : Immediate) → r ≡ Some d → IfSome r (λ d. IsImmediate (operated (augmented_of op m.heap x y)) m.left d m) → d.left ≤ m.left
augmented_fewer m x y op r d is h =
    let i : IsImmediate (operated (augmented_of op m.heap x y)) m.left d m = found m (operated (augmented_of op m.heap x y)) m.left r d is h in i.fewer
