-- An augmented assignment to a name, by what its look-up gives.
use Rattle.std.proofs.Common.{◌≡◌, ◌∙◌, ℕ, List, length, ap, sym}
use Rattle.py_tree.specs.declared.op.BinOp.{BinOp}
use Rattle.py_values.specs.declared.value.Value.{Value}
use Rattle.py_values.specs.declared.value.Value.TheVariants as val
use Rattle.py_values.specs.declared.value.ObjId.{ObjId}
use Rattle.py_values.specs.declared.change.Change.{Change}
use Rattle.py_values.specs.declared.end.Effect.{Effect}
use Rattle.py_values.specs.declared.end.Effect.TheVariants.{Give, New, Put, Fail}
use Rattle.py_values.specs.declared.end.Raise.{Raise}
use Rattle.py_values.specs.declared.object.Obj.{Obj}
use Rattle.py_values.specs.Changes.{heap_after}
use Rattle.py_values.specs.Ends.{id_at}
use Rattle.machine_assign.specs.py_world.Site.{Site, trace_of}
use Rattle.machine_assign.specs.py_world.World.{heap_of, with_heap, with_object}
use Rattle.machine_assign.specs.py_world.Names.{value_of_name}
use Rattle.machine_assign.specs.py_world.Outcome.{made, on_value, raised}
use Rattle.machine_assign.specs.py_world.Targets.{augment_name, augment_on, store_name}
use Rattle.machine_assign.specs.core_meaning.Expressions.{CorePart}
use Rattle.machine_assign.specs.machine_state.Places.{CoreState, CoreThen}

module _ (name : List ℕ) (op : BinOp) (e : CorePart) (p : Site) (s : CoreState) (k : CoreThen) (look : Effect) (is : look ≡ value_of_name name p.scene s.locals (heap_of s)) where
  taken : on_value (made look (trace_of p) s) k (λ x s. augment_on x op e (store_name name) p s k) ≡ augment_name name op e p s k
  taken = ap (λ (m : Effect). on_value (made m (trace_of p) s) k (λ x s. augment_on x op e (store_name name) p s k)) is

  by_look : (m : Effect) → look ≡ m → on_value (made m (trace_of p) s) k (λ x s. augment_on x op e (store_name name) p s k) ≡ augment_name name op e p s k
  by_look m g = ap (λ (m : Effect). on_value (made m (trace_of p) s) k (λ x s. augment_on x op e (store_name name) p s k)) (sym g) ∙ taken

  pub augment_found : (x : Value) (c : ℕ) → look ≡ Give x c → augment_on x op e (store_name name) p s k ≡ augment_name name op e p s k
  augment_found x c g = by_look (Give x c) g

  pub augment_new : (o : Obj) (c : ℕ) → look ≡ New o c → augment_on (val.Ref (id_at (length (heap_of s)))) op e (store_name name) p (with_object o s) k ≡ augment_name name op e p s k
  augment_new o c g = by_look (New o c) g

  pub augment_put : (id : ObjId) (change : Change) (x : Value) (c : ℕ) → look ≡ Put id change x c → augment_on x op e (store_name name) p (with_heap (heap_after id change (heap_of s)) s) k ≡ augment_name name op e p s k
  augment_put id change x c g = by_look (Put id change x c) g

  pub augment_fails : (r : Raise) (c : ℕ) → look ≡ Fail r c → k (raised r (trace_of p) s) ≡ augment_name name op e p s k
  augment_fails r c g = by_look (Fail r c) g
