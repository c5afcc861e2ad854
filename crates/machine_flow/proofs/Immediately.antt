-- Statements whose condition's value is there at once.
use Rattle.std.proofs.Common.{◌≡◌, ◌≤◌, ◌∙◌, List, ◌∷◌, Option, Some, IfSome, sym, ap}
use Rattle.std.specs.declared.alloc.Global.{Global}
use Rattle.std.specs.declared.rc.Rc.{Rc}
use Rattle.py_core.specs.declared.expr.CoreExpr.{CoreExpr}
use Rattle.py_core.specs.declared.stmt.CoreBlock.{CoreBlock}
use Rattle.py_core.specs.declared.stmt.CoreBranch.{CoreBranch, out-CoreBranch}
use Rattle.py_kinds.specs.Truth.{truth}
use Rattle.py_world.specs.Outcome.{Gave, Next, if_true, on_value}
use Rattle.py_world.specs.World.{heap_of}
use Rattle.py_world.specs.Statements.{asked, branches_on, loop}
use Rattle.machine_state.specs.core_meaning.Requests.{TurnOf}
use Rattle.machine_state.specs.core_meaning.Expressions.{eval}
use Rattle.machine_state.specs.core_meaning.Statements.{CoreBody, CoreChoice, core_block_body, choice}
use Rattle.machine_state.specs.declared.machine.Machine.{Machine}
use Rattle.machine_state.specs.Places.{CoreThen, at_line, ends}
use Rattle.machine_state.specs.Frames.{layers_of, machine_rest, site_now, state_of}
use Rattle.machine_immediate.specs.declared.immediate.Immediate.{Immediate}
use Rattle.machine_immediate.specs.AtOnce.{IsImmediate}
use Rattle.machine_immediate.proofs.AtOnces.{found}
use Rattle.machine_flow.proofs.Flows.{choice_is}

module _ (m : Machine) (e : Rc CoreExpr Global) (e' : CoreExpr) (rx : Option Immediate) (x : Immediate) (same : e' ≡ e.value) (is : rx ≡ Some x) (h : IfSome rx (λ d. IsImmediate (eval e') m.left d m)) where
  there : IsImmediate (eval e') m.left x m
  there = found m (eval e') m.left rx x is h

  goes : (k : CoreThen) → ends x.left (k (Gave x.value (state_of m))) ≡ ends m.left (eval e.value (site_now m) (state_of m) k)
  goes k = sym (there.goes_on k) ∙ ap (λ (y : CoreExpr). ends m.left (eval y (site_now m) (state_of m) k)) same

  pub fewer : x.left ≤ m.left
  fewer = there.fewer

  pub loop_there : (body : CoreBlock)
      → ends x.left (if_true (truth m.heap x.value) (asked (TurnOf e.value body) (site_now m) (state_of m) (machine_rest m)) (machine_rest m (Next (state_of m)))) ≡ ends m.left (loop (TurnOf e.value body) (eval e.value) (site_now m) (state_of m) (machine_rest m))
  loop_there body = goes (λ o. on_value o (machine_rest m) (λ v s. if_true (truth (heap_of s) v) (asked (TurnOf e.value body) (site_now m) s (machine_rest m)) (machine_rest m (Next s))))

-- a branch whose condition's value is there at once, on the branch's line
pub branch_there : (m : Machine) (b : CoreBranch) (e' : CoreExpr) (rx : Option Immediate) (x : Immediate) (body : Rc CoreBlock Global) (rest : List CoreChoice) (other : CoreBody)
    → e' ≡ (out-CoreBranch b).condition.value → body.value ≡ (out-CoreBranch b).body.value → rx ≡ Some x → IfSome rx (λ d. IsImmediate (eval e') m.left d (record m { here = at_line (out-CoreBranch b).at.line m.here }))
    → ends x.left (if_true (truth m.heap x.value) (core_block_body (layers_of m.stack.own) body.value (site_now m).scene (state_of m) (machine_rest m)) (branches_on rest other (site_now m).scene (state_of m) (machine_rest m)))
    ≡ ends m.left (branches_on (choice (layers_of m.stack.own) b ∷ rest) other (site_now m).scene (state_of m) (machine_rest m))
branch_there m b e' rx x body rest other condition same is h =
    let ls = layers_of m.stack.own in
    let scene = (site_now m).scene in
    let line = (out-CoreBranch b).at.line in
    let i : IsImmediate (eval e') m.left x (record m { here = at_line line m.here }) = found (record m { here = at_line line m.here }) (eval e') m.left rx x is h in
    sym (i.goes_on (λ o. on_value o (machine_rest m) (λ v s. if_true (truth (heap_of s) v) (core_block_body ls body.value scene s (machine_rest m)) (branches_on rest other scene s (machine_rest m)))))
    ∙ ap (λ (y : CoreExpr). ends m.left (branches_on ((line, (eval y, core_block_body ls body.value)) ∷ rest) other scene (state_of m) (machine_rest m))) condition
    ∙ ap (λ (y : CoreBlock). ends m.left (branches_on ((line, (eval (out-CoreBranch b).condition.value, core_block_body ls y)) ∷ rest) other scene (state_of m) (machine_rest m))) same
    ∙ ap (λ (y : CoreChoice). ends m.left (branches_on (y ∷ rest) other scene (state_of m) (machine_rest m))) (sym (choice_is ls b))
