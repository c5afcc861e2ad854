-- Operators whose value is there at once.
use Rattle.std.proofs.Common.{◌≡◌, ◌≢◌, ◌≤◌, ◌-◌, ◌∙◌, ℕ, suc, ℤ, List, Option, Some, None, Bool, true, false, IfSome, sym, refl, ap, subst, arith, ◌<◌, nat_lt, if◌then◌else◌}
use Rattle.std.proofs.lemmas.Grind.{common_steps}
use Rattle.py_values.specs.declared.end.Effect.{Effect}
use Rattle.py_values.specs.declared.end.Effect.TheVariants.{Give}
use Rattle.py_values.specs.declared.object.Obj.{Obj}
use Rattle.py_values.specs.declared.value.Value.{Value}
use Rattle.py_values.specs.declared.value.Value.TheVariants.{Int}
use Rattle.py_ops.specs.Binary.{binary_of, numbers_by}
use Rattle.py_tree.specs.declared.op.BinOp.{BinOp}
use Rattle.machine_state.specs.Found.{OnTrue}
use Rattle.py_values.specs.Ends.{payable, cost_of}
use Rattle.machine_state.specs.py_world.Site.{trace_of}
use Rattle.machine_state.specs.py_world.Outcome.{Gave, operated}
use Rattle.machine_state.specs.Places.{ends}
use Rattle.machine_state.proofs.Costs.{paid}
use Rattle.machine_immediate.specs.declared.immediate.Immediate.{Immediate}
use Rattle.machine_immediate.specs.AtOnce.{IsMadeWithin, IsOperated, PutIn, ended_at}
use Rattle.machine_immediate.proofs.Numbers.{whole}

-- what an operator gives, its step and its cost being paid
pub given : (v : Value) (c left rest : ℕ) → rest ≡ left - c → IsMadeWithin (Some (Give v c)) left (record { value = v; left = rest })
given v c left rest h =
    record {
      fewer = omega arith;
      goes_on = λ m e p s k. paid left m (Give v c) (trace_of p) s k e ∙ ap (λ (n : ℕ). ends n (k (Gave v s))) (sym h);
    }

-- what costs nothing is within any budget
free_by : (b : Bool) (n : ℕ) (what : Effect) → (b ≡ true → n < cost_of what) → cost_of what ≡ 0 → Some what ≡ (if b then None else Some what)
free_by true n what g h = let short : n < cost_of what = g refl in absurd (omega arith)
free_by false n what g h = refl

free : (n : ℕ) (what : Effect) → cost_of what ≡ 0 → Some what ≡ payable n what
free n what h =
    let g : nat_lt n (cost_of what) ≡ true → n < cost_of what = λ e. grind (arith, common_steps) in
    free_by (nat_lt n (cost_of what)) n what g h

operated_one : (made : Option Effect) (what : Effect) (left : ℕ) (d : Immediate) → IsMadeWithin made (left - 1) d → made ≡ payable (left - 1) what → left ≢ 0 → IsOperated what left d
operated_one made what left d h e n =
    let f : d.left ≤ left - 1 = h.fewer in
    let one : left ≡ suc (left - 1) = omega arith in
    record {
      fewer = omega arith;
      goes_on = λ p s k. ap (λ (n : ℕ). ends n (operated what p s k)) one ∙ h.goes_on what e p s k;
    }

pub operated_now : (made : Option Effect) (what : Effect) (left : ℕ) (r : Option Immediate) → IfSome r (IsMadeWithin made (left - 1)) → made ≡ payable (left - 1) what → left ≢ 0 → IfSome r (IsOperated what left)
operated_now made what left None h e n = tt
operated_now made what left (Some d) h e n = operated_one made what left d h e n

-- what is told at once costs the operator's own step alone
pub told_now : (what : Effect) (v : Value) (left : ℕ) → what ≡ Give v 0 → left ≢ 0 → IsOperated what left (ended_at v (left - 1))
told_now what v left h n = operated_one (Some (Give v 0)) what left (ended_at v (left - 1)) (given v 0 (left - 1) (left - 1) (omega arith)) (ap Some (sym h) ∙ free (left - 1) what (ap cost_of h)) n

pub told_whole : (op : BinOp) (heap : List Obj) (x y z : ℤ) (left : ℕ) → numbers_by op x y ≡ Give (Int z) 0 → left ≢ 0 → IsOperated (binary_of op heap (Int x) (Int y)) left (ended_at (Int z) (left - 1))
told_whole op heap x y z left h n = told_now (binary_of op heap (Int x) (Int y)) (Int z) left (whole op x y z h heap) n

-- what is put where something was given
pub put_operated : (what : Effect) (left : ℕ) (r : Option Immediate) (is : Bool) (d : Immediate) → IfSome r (IsOperated what left) → PutIn r is d → OnTrue is (IsOperated what left d)
put_operated what left None is d h put = subst (λ (b : Bool). OnTrue b (IsOperated what left d)) (sym put) tt
put_operated what left (Some e) is d h put = subst (λ (b : Bool). OnTrue b (IsOperated what left d)) (sym put.0) (subst (IsOperated what left) (sym put.1) h)
