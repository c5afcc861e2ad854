-- The stores of an attribute and of an item begin with their first part.
use Rattle.std.proofs.Common.{◌≡◌, ℕ, List, ◌∷◌, refl}
use Rattle.std.specs.declared.alloc.Global.{Global}
use Rattle.std.specs.declared.rc.Rc.{Rc}
use Rattle.py_core.specs.declared.expr.CoreExpr.{CoreExpr}
use Rattle.py_values.specs.declared.value.Value.{Value}
use Rattle.machine_turns.specs.py_world.Targets.{store_attribute, store_item}
use Rattle.machine_turns.specs.core_meaning.Expressions.{CorePart, eval}
use Rattle.machine_turns.specs.machine_state.declared.place.Location.{Location}
use Rattle.machine_turns.specs.machine_state.declared.frame.Frame.{Frame}
use Rattle.machine_turns.specs.machine_state.declared.frame.Frame.TheVariants.{Target}
use Rattle.machine_turns.specs.machine_state.declared.frame.TargetFrame.TheVariants.{Attribute, Item}
use Rattle.machine_turns.specs.machine_state.Places.{CoreState, site_of}
use Rattle.machine_turns.specs.machine_state.Frames.{after_stack, handled_exception, outer_of}

module _ (h : Location) (fs : List Frame) (s : CoreState) (first : CorePart) where
  pub attribute_begins : (name name' : List ℕ) (v : Value) → name' ≡ name
      → first (site_of h (outer_of fs) (handled_exception fs)) s (after_stack (Target (Attribute name' v) ∷ fs) h) ≡ store_attribute first name v (site_of h (outer_of fs) (handled_exception fs)) s (after_stack fs h)
  attribute_begins name name' v is = rw is refl

  pub item_begins : (i i' : Rc CoreExpr Global) (v : Value) → i'.value ≡ i.value
      → first (site_of h (outer_of fs) (handled_exception fs)) s (after_stack (Target (Item i' v) ∷ fs) h) ≡ store_item first (eval i.value) v (site_of h (outer_of fs) (handled_exception fs)) s (after_stack fs h)
  item_begins i i' v is = rw is refl
