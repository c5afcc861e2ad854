-- Going down the classes on which a class stands.
use Rattle.std.proofs.Common.{ℕ, suc, ◌+◌, ◌-◌, ◌<◌, Bool, ◌||◌, List, ◌≡◌, arith, eqb, slice_get, ap, Option}
use Rattle.py_kinds.specs.Classes.{stands_on, if_base, base_of, exc_within, exc_eq, if_exc, exc_base, root_within, first_exc, exc_form, form_of}
use Rattle.py_values.specs.declared.class.ExcClass.{ExcClass}
use Rattle.py_values.specs.declared.object.Obj.{Obj}
use Rattle.py_values.specs.declared.value.ObjId.{ObjId}

pub stands_step : (n i : ℕ) (h : List Obj) (c d : ObjId) → i < n
    → stands_on (n - i) h c d ≡ (eqb c.at d.at || if_base (λ b. stands_on (n - (i + 1)) h b d) (base_of (slice_get h c.at)))
stands_step n i h c d lt =
    let e : n - i ≡ suc (n - (i + 1)) = omega arith in ap (λ (m : ℕ). stands_on m h c d) e

pub exc_step : (i : ℕ) (c d : ExcClass) → i < 4
    → exc_within (4 - i) c d ≡ (exc_eq c d || if_exc (λ b. exc_within (4 - (i + 1)) b d) (exc_base c))
exc_step i c d lt =
    let e : 4 - i ≡ suc (4 - (i + 1)) = omega arith in ap (λ (m : ℕ). exc_within m c d) e

pub root_step : (n i : ℕ) (h : List Obj) (c : ObjId) → i < n
    → root_within (n - i) h c ≡ first_exc (exc_form (form_of (slice_get h c.at))) (λ b. root_within (n - (i + 1)) h b) (base_of (slice_get h c.at))
root_step n i h c lt =
    let e : n - i ≡ suc (n - (i + 1)) = omega arith in ap (λ (m : ℕ). root_within m h c) e
