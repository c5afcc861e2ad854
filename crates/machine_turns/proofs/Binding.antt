-- Where a name is bound.
use Rattle.std.proofs.Common.{◌≡◌, ℕ, List, true, false, Some, None, ap, refl}
use Rattle.std.specs.Prelude.{slice_get}
use Rattle.py_values.specs.declared.class.ExcClass.TheVariants.{NameError, UnboundLocalError}
use Rattle.py_values.specs.declared.object.Obj.{Obj}
use Rattle.py_values.specs.declared.value.Value.{Value}
use Rattle.py_values.specs.Names.{find_name}
use Rattle.py_values.specs.Raises.{text_raise}
use Rattle.machine_state.specs.py_world.Site.{Scene}
use Rattle.machine_state.specs.py_world.World.{Locals}
use Rattle.py_attributes.specs.Attributes.{class_names}
use Rattle.machine_state.specs.py_world.Names.{bound_by, bound_class, bound_global, bound_local, bound_value, names_in, not_bound, not_defined, unbound_by, unbound_class, unbound_global, unbound_here, unbound_local}
use Rattle.machine_state.specs.declared.place.Place.{Place}
use Rattle.machine_state.specs.declared.place.Place.TheVariants.{Module, Function, Class}
use Rattle.machine_state.specs.Places.{CoreState, own_in}
use Rattle.machine_state.specs.Owning.{class_here, is_own}

pub bound_own : (place : Place) (name : List ℕ) (v : Value) (scene : Scene) (s : CoreState) → is_own place name ≡ true
    → bound_by (own_in place) name v scene s ≡ bound_local name v s
bound_own (Module path at) name v scene s h = absurd cc
bound_own (Function code) name v scene s h = rw h refl
bound_own (Class path title home at) name v scene s h = absurd cc

pub bound_other : (place : Place) (name : List ℕ) (v : Value) (scene : Scene) (s : CoreState) → is_own place name ≡ false → class_here place ≡ None
    → bound_by (own_in place) name v scene s ≡ bound_global name v scene s
bound_other (Module path at) name v scene s h none = refl
bound_other (Function code) name v scene s h none = rw h refl
bound_other (Class path title home at) name v scene s h none = absurd cc

pub bound_of_class : (place : Place) (name : List ℕ) (v : Value) (scene : Scene) (s : CoreState) (at : ℕ) → class_here place ≡ Some at
    → bound_by (own_in place) name v scene s ≡ bound_class name v at s
bound_of_class (Module path id) name v scene s at h = absurd cc
bound_of_class (Function code) name v scene s at h = absurd cc
bound_of_class (Class path title home id) name v scene s at h = let same : id ≡ at = cc in ap (λ (i : ℕ). bound_class name v i s) same

pub unbound_own : (place : Place) (name : List ℕ) (scene : Scene) (s : CoreState) → is_own place name ≡ true
    → unbound_by (own_in place) name scene s ≡ unbound_here name s
unbound_own (Module path at) name scene s h = absurd cc
unbound_own (Function code) name scene s h = rw h refl
unbound_own (Class path title home at) name scene s h = absurd cc

pub unbound_other : (place : Place) (name : List ℕ) (scene : Scene) (s : CoreState) → is_own place name ≡ false → class_here place ≡ None
    → unbound_by (own_in place) name scene s ≡ unbound_global name scene s
unbound_other (Module path at) name scene s h none = refl
unbound_other (Function code) name scene s h none = rw h refl
unbound_other (Class path title home at) name scene s h none = absurd cc

pub unbound_of_class : (place : Place) (name : List ℕ) (scene : Scene) (s : CoreState) (at : ℕ) → class_here place ≡ Some at
    → unbound_by (own_in place) name scene s ≡ unbound_class name at s
unbound_of_class (Module path id) name scene s at h = absurd cc
unbound_of_class (Function code) name scene s at h = absurd cc
unbound_of_class (Class path title home id) name scene s at h = let same : id ≡ at = cc in ap (λ (i : ℕ). unbound_class name i s) same

pub value_own : (place : Place) (name : List ℕ) (home : ℕ) (locals : Locals) (heap : List Obj) → is_own place name ≡ true
    → bound_value (own_in place) name home locals heap ≡ find_name name locals
value_own (Module path at) name home locals heap h = absurd cc
value_own (Function code) name home locals heap h = rw h refl
value_own (Class path title own at) name home locals heap h = absurd cc

pub value_other : (place : Place) (name : List ℕ) (home : ℕ) (locals : Locals) (heap : List Obj) → is_own place name ≡ false → class_here place ≡ None
    → bound_value (own_in place) name home locals heap ≡ find_name name (names_in (slice_get heap home))
value_other (Module path at) name home locals heap h none = refl
value_other (Function code) name home locals heap h none = rw h refl
value_other (Class path title own at) name home locals heap h none = absurd cc

pub value_of_class : (place : Place) (name : List ℕ) (home : ℕ) (locals : Locals) (heap : List Obj) (at : ℕ) → class_here place ≡ Some at
    → bound_value (own_in place) name home locals heap ≡ find_name name (class_names (slice_get heap at))
value_of_class (Module path id) name home locals heap at h = absurd cc
value_of_class (Function code) name home locals heap at h = absurd cc
value_of_class (Class path title own id) name home locals heap at h =
    let same : id ≡ at = cc in ap (λ (i : ℕ). find_name name (class_names (slice_get heap i))) same

pub missing_own : (place : Place) (name : List ℕ) → is_own place name ≡ true → not_bound (own_in place) name ≡ text_raise UnboundLocalError (unbound_local name)
missing_own (Module path at) name h = absurd cc
missing_own (Function code) name h = rw h refl
missing_own (Class path title home at) name h = absurd cc

pub missing_other : (place : Place) (name : List ℕ) → is_own place name ≡ false → not_bound (own_in place) name ≡ text_raise NameError (not_defined name)
missing_other (Module path at) name h = refl
missing_other (Function code) name h = rw h refl
missing_other (Class path title home at) name h = refl
