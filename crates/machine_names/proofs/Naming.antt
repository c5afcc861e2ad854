-- Where a name is looked for.
use Rattle.std.proofs.Common.{◌≡◌, ℕ, List, true, false, Some, None, ap, refl}
use Rattle.std.specs.Prelude.{slice_get}
use Rattle.py_values.specs.Names.{find_name}
use Rattle.py_values.specs.declared.object.Obj.{Obj}
use Rattle.machine_state.specs.py_world.World.{Locals}
use Rattle.machine_state.specs.py_world.Names.{named_in, local_found, class_found, value_of_global}
use Rattle.py_attributes.specs.Attributes.{class_names}
use Rattle.machine_state.specs.declared.place.Place.{Place}
use Rattle.machine_state.specs.declared.place.Place.TheVariants.{Module, Function, Class}
use Rattle.machine_state.specs.Places.{own_in}
use Rattle.machine_state.specs.Owning.{class_here, is_own}

pub named_own : (place : Place) (name : List ℕ) (home : ℕ) (locals : Locals) (heap : List Obj) → is_own place name ≡ true
    → named_in (own_in place) name home locals heap ≡ local_found (find_name name locals) name
named_own (Module path at) name home locals heap h = absurd cc
named_own (Function code) name home locals heap h = rw h refl
named_own (Class path title own at) name home locals heap h = absurd cc

pub named_other : (place : Place) (name : List ℕ) (home : ℕ) (locals : Locals) (heap : List Obj) → is_own place name ≡ false → class_here place ≡ None
    → named_in (own_in place) name home locals heap ≡ value_of_global name home heap
named_other (Module path at) name home locals heap h none = refl
named_other (Function code) name home locals heap h none = rw h refl
named_other (Class path title own at) name home locals heap h none = absurd cc

pub named_class : (place : Place) (name : List ℕ) (home : ℕ) (locals : Locals) (heap : List Obj) (at : ℕ) → class_here place ≡ Some at
    → named_in (own_in place) name home locals heap ≡ class_found (find_name name (class_names (slice_get heap at))) name home heap
named_class (Module path id) name home locals heap at h = absurd cc
named_class (Function code) name home locals heap at h = absurd cc
named_class (Class path title own id) name home locals heap at h =
    let same : id ≡ at = cc in ap (λ (i : ℕ). class_found (find_name name (class_names (slice_get heap i))) name home heap) same
