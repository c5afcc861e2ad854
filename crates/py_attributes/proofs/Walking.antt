-- Going down the classes on which a class stands.
use Rattle.std.proofs.Common.{ℕ, suc, ◌+◌, ◌-◌, ◌<◌, List, ◌≡◌, arith, slice_get, ap}
use Rattle.py_kinds.specs.Classes.{base_of}
use Rattle.py_values.specs.Names.{find_name}
use Rattle.py_values.specs.declared.object.Obj.{Obj}
use Rattle.py_values.specs.declared.value.ObjId.{ObjId}
use Rattle.py_attributes.specs.Attributes.{value_within, first_value, class_names}

pub value_step : (n i : ℕ) (h : List Obj) (name : List ℕ) (c : ObjId) → i < n
    → value_within (n - i) h name c ≡ first_value (find_name name (class_names (slice_get h c.at))) (λ b. value_within (n - (i + 1)) h name b) (base_of (slice_get h c.at))
value_step n i h name c lt =
    let e : n - i ≡ suc (n - (i + 1)) = omega arith in ap (λ (m : ℕ). value_within m h name c) e
