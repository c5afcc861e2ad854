-- Parts of keys behind one another.
use Rattle.std.proofs.Math.Seq.{drop-cons}
use Rattle.py_values.specs.declared.object.Obj.{Obj}
use Rattle.py_values.specs.declared.object.Obj.TheVariants as obj
use Rattle.py_values.specs.declared.value.ObjId.{ObjId}
use Rattle.py_values.specs.declared.value.Value.{Value}
use Rattle.py_values.specs.declared.value.Value.TheVariants as val
use Rattle.py_kinds.specs.declared.keys.KeyFault.{KeyFault}
use Rattle.std.proofs.Common.{ℕ, zero, suc, ◌+◌, ◌-◌, ◌<◌, ◌≤◌, length, drop, get_or, Option, Some, None, add-one, List, [], ◌∷◌, ◌++◌, ◌≡◌, ◌∙◌, Bool, true, ap, refl, sym, arith, append_assoc, append-nil, zero-add, length-append, add_assoc}
use Rattle.std.proofs.lemmas.Bool.{lt-ltb}
use Rattle.std.specs.Prelude.{nat_lt, slice_get, if◌then◌else◌}
use Rattle.py_values.specs.declared.key.Atom.{Atom}
use Rattle.py_values.specs.declared.key.Atom.TheVariants as atom
use Rattle.py_kinds.specs.Keys.{Parts, Atoms, Fault, joined_parts, row_parts, obj_parts, keyed_by, parts_to, key_steps, key_payable, PartsTold}
use Rattle.py_kinds.specs.declared.keys.KeyResult.{KeyResult}
use Rattle.py_kinds.specs.declared.keys.KeyResult.TheVariants as keyed
use Rattle.py_kinds.specs.declared.keys.Pushed.{Pushed}
use Rattle.py_kinds.specs.declared.keys.Pushed.TheVariants as pushed

pub joined_assoc : (x y z : Parts) → joined_parts x (joined_parts y z) ≡ joined_parts (joined_parts x y) z
joined_assoc (Fault x n) y z = refl
joined_assoc (Atoms a) (Fault y n) z = refl
joined_assoc (Atoms a) (Atoms b) (Fault z n) = simp (length-append, add_assoc)
joined_assoc (Atoms a) (Atoms b) (Atoms c) = simp append_assoc

pub joined_nil : (x : Parts) → joined_parts x (Atoms []) ≡ x
joined_nil (Fault x n) = refl
joined_nil (Atoms a) = simp append-nil

pub ruleset joins = (joined_assoc, joined_nil)

-- the parts of a row from an element on
pub row_at : (f : Value → Parts) (vs : List Value) (i : ℕ) (d : Value) (a : List Atom) → i < length vs
    → joined_parts (Atoms a) (row_parts f (drop i vs)) ≡ joined_parts (joined_parts (Atoms a) (f (get_or vs i d))) (row_parts f (drop (i + 1) vs))
row_at f vs i d a h = rw (drop-cons vs i d h, joined_assoc, add-one i) refl

-- a turn of the loop over the elements of a tuple
pub row_turn : (f : Value → Parts) (vs : List Value) (i : ℕ) (d : Value) (a b : List Atom) → i < length vs
    → joined_parts (Atoms a) (f (get_or vs i d)) ≡ Atoms b
    → joined_parts (Atoms a) (row_parts f (drop i vs)) ≡ joined_parts (Atoms b) (row_parts f (drop (i + 1) vs))
row_turn f vs i d a b h e = row_at f vs i d a h ∙ ap (λ (x : Parts). joined_parts x (row_parts f (drop (i + 1) vs))) e

-- an element at which a key ends with a fault
pub row_fault : (f : Value → Parts) (vs : List Value) (i : ℕ) (d : Value) (a : List Atom) (x : KeyFault) (n : ℕ) → i < length vs
    → joined_parts (Atoms a) (f (get_or vs i d)) ≡ Fault x n
    → joined_parts (Atoms a) (row_parts f (drop i vs)) ≡ Fault x n
row_fault f vs i d a x n h e = row_at f vs i d a h ∙ ap (λ (y : Parts). joined_parts y (row_parts f (drop (i + 1) vs))) e

-- what follows takes no steps away
pub steps_grow : (x y : Parts) → key_steps (keyed_by x) ≤ key_steps (keyed_by (joined_parts x y))
steps_grow (Fault x n) y = omega arith
steps_grow (Atoms a) (Fault y n) = omega arith
steps_grow (Atoms a) (Atoms b) = simp length-append (omega arith)

-- an element behind which the steps are more than the budget's
pub row_beyond : (f : Value → Parts) (vs : List Value) (i : ℕ) (d : Value) (a : List Atom) (budget : ℕ) → i < length vs
    → budget < key_steps (keyed_by (joined_parts (Atoms a) (f (get_or vs i d))))
    → budget < key_steps (keyed_by (joined_parts (Atoms a) (row_parts f (drop i vs))))
row_beyond f vs i d a budget h l =
    let g : key_steps (keyed_by (joined_parts (Atoms a) (f (get_or vs i d))))
    ≤ key_steps (keyed_by (joined_parts (joined_parts (Atoms a) (f (get_or vs i d))) (row_parts f (drop (i + 1) vs))))
    = steps_grow (joined_parts (Atoms a) (f (get_or vs i d))) (row_parts f (drop (i + 1) vs)) in
    rw (row_at f vs i d a h) (omega arith)

-- parts whose steps are more than the budget's already
pub parts_beyond : (a : List Atom) (p : Parts) (budget : ℕ) → budget < length a - 1 → budget < key_steps (keyed_by (joined_parts (Atoms a) p))
parts_beyond a p budget l =
    let g : length a - 1 ≤ key_steps (keyed_by (joined_parts (Atoms a) p)) = steps_grow (Atoms a) p in
    omega arith

pub over : (budget : ℕ) (k : KeyResult) → budget < key_steps k → None ≡ key_payable budget k
over budget k l = ap (λ (b : Bool). if b then None else Some k) (sym (lt-ltb budget (key_steps k) l))

-- what is told of the same parts
pub told_at : (budget : ℕ) (o : Pushed) (a : List Atom) (p q : Parts) → q ≡ p → PartsTold budget o a p → PartsTold budget o a q
told_at budget o a p q e h = rw e h

-- the parts of an object that a value stands for, and of a tuple
pub ref_parts : (a : List Atom) (d : ℕ) (heap : List Obj) (id : ObjId) → 0 < d
    → joined_parts (Atoms a) (parts_to d heap (val.Ref id)) ≡ joined_parts (Atoms a) (obj_parts (parts_to (d - 1) heap) id (slice_get heap id.at))
ref_parts a zero heap id h = absurd (omega arith)
ref_parts a (suc d) heap id h = let e : suc d - 1 ≡ d = omega arith in rw e refl

pub tuple_parts : (f : Value → Parts) (id : ObjId) (o : Option Obj) (vs us : List Value) (a b : List Atom) (n : ℕ) → o ≡ Some (obj.Tuple vs) → us ≡ vs
    → n ≡ length vs → b ≡ a ++ atom.Tuple n ∷ [] → joined_parts (Atoms a) (obj_parts f id o) ≡ joined_parts (Atoms b) (row_parts f us)
tuple_parts f id o vs us a b n e u m g = rw (e, u, g, m) (joined_assoc (Atoms a) (Atoms (atom.Tuple (length vs) ∷ [])) (row_parts f vs))

-- the parts behind none
pub none_before : (x : Parts) → joined_parts (Atoms []) x ≡ x
none_before (Fault x n) = simp zero-add
none_before (Atoms a) = refl

-- the end of a key under a budget
pub key_whole : (budget : ℕ) (p : Parts) (k : KeyResult) (r : Option KeyResult) (a : List Atom) → joined_parts (Atoms []) p ≡ Atoms a → k ≡ keyed.Key a
    → r ≡ key_payable budget k → r ≡ key_payable budget (keyed_by p)
key_whole budget p k r a e f h =
    let q : Atoms a ≡ p = sym e ∙ none_before p in
    h ∙ ap (key_payable budget) (f ∙ ap keyed_by q)

pub key_faulty : (budget : ℕ) (p : Parts) (r : Option KeyResult) (x : KeyFault) (m n : ℕ) → joined_parts (Atoms []) p ≡ Fault x n → m ≡ n
    → r ≡ key_payable budget (keyed.Fault x m) → r ≡ key_payable budget (keyed_by p)
key_faulty budget p r x m n e f h =
    let q : Fault x n ≡ p = sym e ∙ none_before p in
    h ∙ ap (key_payable budget) (ap (keyed.Fault x) f ∙ ap keyed_by q)
