-- Augmented assignments and deletions begin with their first part.
use Rattle.std.proofs.Common.{◌≡◌, ℕ, List, ◌∷◌, refl}
use Rattle.std.specs.declared.alloc.Global.{Global}
use Rattle.std.specs.declared.rc.Rc.{Rc}
use Rattle.py_core.specs.declared.expr.CoreExpr.{CoreExpr}
use Rattle.py_tree.specs.declared.op.BinOp.{BinOp}
use Rattle.py_values.specs.declared.value.Value.{Value}
use Rattle.machine_assign.specs.py_world.Targets.{store_name, augment_on, augment_attribute, augment_item, delete_attribute, delete_item}
use Rattle.machine_assign.specs.core_meaning.Expressions.{CorePart, eval}
use Rattle.machine_assign.specs.machine_state.declared.place.Location.{Location}
use Rattle.machine_assign.specs.machine_state.declared.frame.Frame.{Frame}
use Rattle.machine_assign.specs.machine_state.declared.frame.Frame.TheVariants.{Simple, Target}
use Rattle.machine_assign.specs.machine_state.declared.frame.SimpleFrame.TheVariants.{Augment}
use Rattle.machine_assign.specs.machine_state.declared.frame.Spot.TheVariants.{Name}
use Rattle.machine_assign.specs.machine_state.declared.frame.TargetFrame.TheVariants.{AugmentAttribute, AugmentItem, DeleteAttribute, DeleteItem}
use Rattle.machine_assign.specs.machine_state.Places.{CoreState, site_of}
use Rattle.machine_assign.specs.machine_state.Frames.{after_stack, handled_exception, outer_of}

module _ (h : Location) (fs : List Frame) (s : CoreState) (first : CorePart) where
  pub augment_attribute_begins : (name name' : List ℕ) (op : BinOp) (e e' : Rc CoreExpr Global) → name' ≡ name → e'.value ≡ e.value
      → first (site_of h (outer_of fs) (handled_exception fs)) s (after_stack (Target (AugmentAttribute name' op e') ∷ fs) h) ≡ augment_attribute first name op (eval e.value) (site_of h (outer_of fs) (handled_exception fs)) s (after_stack fs h)
  augment_attribute_begins name name' op e e' is same = rw (is, same) refl

  pub augment_item_begins : (i i' : Rc CoreExpr Global) (op : BinOp) (e e' : Rc CoreExpr Global) → i'.value ≡ i.value → e'.value ≡ e.value
      → first (site_of h (outer_of fs) (handled_exception fs)) s (after_stack (Target (AugmentItem i' op e') ∷ fs) h) ≡ augment_item first (eval i.value) op (eval e.value) (site_of h (outer_of fs) (handled_exception fs)) s (after_stack fs h)
  augment_item_begins i i' op e e' is same = rw (is, same) refl

  pub delete_attribute_begins : (name name' : List ℕ) → name' ≡ name
      → first (site_of h (outer_of fs) (handled_exception fs)) s (after_stack (Target (DeleteAttribute name') ∷ fs) h) ≡ delete_attribute first name (site_of h (outer_of fs) (handled_exception fs)) s (after_stack fs h)
  delete_attribute_begins name name' is = rw is refl

  pub delete_item_begins : (i i' : Rc CoreExpr Global) → i'.value ≡ i.value
      → first (site_of h (outer_of fs) (handled_exception fs)) s (after_stack (Target (DeleteItem i') ∷ fs) h) ≡ delete_item first (eval i.value) (site_of h (outer_of fs) (handled_exception fs)) s (after_stack fs h)
  delete_item_begins i i' is = rw is refl

  -- the right side of an augmented assignment to a name
  pub augment_begins : (x : Value) (op : BinOp) (name name' : List ℕ) → name' ≡ name
      → first (site_of h (outer_of fs) (handled_exception fs)) s (after_stack (Simple (Augment x op (Name name')) ∷ fs) h) ≡ augment_on x op first (store_name name) (site_of h (outer_of fs) (handled_exception fs)) s (after_stack fs h)
  augment_begins x op name name' is = rw is refl
