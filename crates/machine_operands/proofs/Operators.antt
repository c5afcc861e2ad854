-- Operators and comparisons behind their step.
use Rattle.std.proofs.Common.{ℕ, suc, ◌≡◌, ◌∙◌, Bool, List, sym, ap}
use Rattle.std.specs.Prelude.{Result, IfOk, ◌-◌}
use Rattle.std.proofs.lemmas.Result.{IfOk-weaker}
use Rattle.py_tree.specs.declared.op.BinOp.{BinOp}
use Rattle.py_tree.specs.declared.op.CmpOp.{CmpOp}
use Rattle.py_values.specs.declared.end.Effect.{Effect}
use Rattle.py_values.specs.declared.end.Effect.TheVariants.{Give}
use Rattle.py_values.specs.declared.object.Obj.{Obj}
use Rattle.py_values.specs.declared.value.Value.{Value}
use Rattle.py_values.specs.declared.value.Value.TheVariants as val
use Rattle.py_ops.specs.Binary.{binary_of}
use Rattle.py_ops.specs.Compare.{compare_of}
use Rattle.machine_state.specs.py_world.Outcome.{costing, operated}
use Rattle.machine_state.specs.py_world.Site.{trace_of}
use Rattle.machine_state.specs.declared.frame.End.TheVariants as end
use Rattle.machine_state.specs.declared.machine.NextAction.TheVariants.{Back}
use Rattle.machine_state.specs.declared.machine.Machine.{Machine}
use Rattle.machine_state.specs.declared.machine.TurnEnd.{TurnEnd}
use Rattle.machine_state.specs.Places.{ends}
use Rattle.machine_state.specs.Frames.{machine_rest, site_now, state_of, todo, Follows}

-- the run behind an operator's own step
module _ (m m' : Machine) (same : m' ≡ record m { left = m.left - 1 }) (one : m.left ≡ suc m'.left) where
  step_paid : (what : Effect) → ends m.left (operated what (site_now m) (state_of m) (machine_rest m)) ≡ ends m'.left (costing what (trace_of (site_now m')) (state_of m') (machine_rest m'))
  step_paid what =
      ap (λ (l : ℕ). ends l (operated what (site_now m) (state_of m) (machine_rest m))) one
      ∙ ap (λ (z : Machine). ends m'.left (costing what (trace_of (site_now z)) (state_of z) (machine_rest z))) (sym same)

  told : (what : Effect) (v : Value) → what ≡ Give v 0 → ends m.left (operated what (site_now m) (state_of m) (machine_rest m)) ≡ ends m'.left (todo (Back (end.Value v)) m')
  told what v h = step_paid what ∙ ap (λ (x : Effect). ends m'.left (costing x (trace_of (site_now m')) (state_of m') (machine_rest m'))) h

  -- the value of an operator that is told at once, or what else it makes
  pub operator_told : (o : BinOp) (x y v : Value) → ((heap : List Obj) → binary_of o heap x y ≡ Give v 0)
      → ends m.left (operated (binary_of o m.heap x y) (site_now m) (state_of m) (machine_rest m)) ≡ ends m'.left (todo (Back (end.Value v)) m')
  operator_told o x y v h = told (binary_of o m.heap x y) v (h m.heap)

  pub operator_made : (o : BinOp) (x y : Value) (m'' : Machine) {E : Type 0} (r : Result TurnEnd E)
      → IfOk r (λ t. Follows t m'' m'.left (costing (binary_of o m'.heap x y) (trace_of (site_now m')) (state_of m') (machine_rest m')))
      → IfOk r (λ t. Follows t m'' m.left (operated (binary_of o m.heap x y) (site_now m) (state_of m) (machine_rest m)))
  operator_made o x y m'' r h =
      IfOk-weaker r (λ (t : TurnEnd). Follows t m'' m'.left (costing (binary_of o m'.heap x y) (trace_of (site_now m')) (state_of m') (machine_rest m')))
      (λ (t : TurnEnd). Follows t m'' m.left (operated (binary_of o m.heap x y) (site_now m) (state_of m) (machine_rest m)))
      (λ t g. step_paid (binary_of o m.heap x y) ∙ ap (λ (z : Machine). ends m'.left (costing (binary_of o z.heap x y) (trace_of (site_now m')) (state_of m') (machine_rest m'))) (sym same) ∙ g)
      h

  -- likewise of a comparison
  pub comparison_told : (o : CmpOp) (x y : Value) (b : Bool) → compare_of o m'.heap x y ≡ Give (val.Bool b) 0
      → ends m.left (operated (compare_of o m.heap x y) (site_now m) (state_of m) (machine_rest m)) ≡ ends m'.left (todo (Back (end.Value (val.Bool b))) m')
  comparison_told o x y b h = told (compare_of o m.heap x y) (val.Bool b) (ap (λ (z : Machine). compare_of o z.heap x y) (sym same) ∙ h)

  pub comparison_made : (o : CmpOp) (x y : Value) (m'' : Machine) {E : Type 0} (r : Result TurnEnd E)
      → IfOk r (λ t. Follows t m'' m'.left (costing (compare_of o m'.heap x y) (trace_of (site_now m')) (state_of m') (machine_rest m')))
      → IfOk r (λ t. Follows t m'' m.left (operated (compare_of o m.heap x y) (site_now m) (state_of m) (machine_rest m)))
  comparison_made o x y m'' r h =
      IfOk-weaker r (λ (t : TurnEnd). Follows t m'' m'.left (costing (compare_of o m'.heap x y) (trace_of (site_now m')) (state_of m') (machine_rest m')))
      (λ (t : TurnEnd). Follows t m'' m.left (operated (compare_of o m.heap x y) (site_now m) (state_of m) (machine_rest m)))
      (λ t g. step_paid (compare_of o m.heap x y) ∙ ap (λ (z : Machine). ends m'.left (costing (compare_of o z.heap x y) (trace_of (site_now m')) (state_of m') (machine_rest m'))) (sym same) ∙ g)
      h
