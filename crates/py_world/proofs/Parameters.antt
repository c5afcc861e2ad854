-- Arguments and parameters, one after another.
use Rattle.std.proofs.Common.{◌≡◌, ◌<◌, ◌≤◌, ◌+◌, ◌∙◌, ℕ, zero, suc, List, [], ◌∷◌, drop, length, get_or, Some, None, refl, sym, ap, subst, arith, add-one}
use Rattle.std.proofs.Math.ListN.{drop_of_length-le}
use Rattle.std.proofs.Math.Seq.{drop-cons}
use Rattle.std.specs.Prelude.{slice_get}
use Rattle.py_values.specs.declared.rows.Param.{Param}
use Rattle.py_values.specs.declared.value.Value.{Value}
use Rattle.py_values.specs.Names.{bind_name}
use Rattle.py_world.specs.World.{Locals}
use Rattle.py_world.specs.Arguments.{fitted}
use Rattle.py_world.specs.Fitting.{argument_or, value_given}

-- the first of what is left of two lists: the argument at a place, or none
data Ahead (vs : List Value) (i : ℕ) : Type 0 where
  here : (v : Value) → slice_get vs i ≡ Some v → drop i vs ≡ v ∷ drop (suc i) vs → Ahead vs i
  over : slice_get vs i ≡ None → drop i vs ≡ [] → drop (suc i) vs ≡ [] → Ahead vs i

ahead_more : {v : Value} {vs : List Value} {i : ℕ} → Ahead vs i → Ahead (v ∷ vs) (suc i)
ahead_more (here w e d) = here w e d
ahead_more (over e d f) = over e d f

ahead : (vs : List Value) (i : ℕ) → Ahead vs i
ahead [] zero = over refl refl refl
ahead [] (suc i) = over refl refl refl
ahead (v ∷ vs) zero = here v refl refl
ahead (v ∷ vs) (suc i) = ahead_more (ahead vs i)

next_of : (ps : List Param) (i : ℕ) (p : Param) → i < length ps → p ≡ get_or ps i p → drop i ps ≡ p ∷ drop (suc i) ps
next_of ps i p w h = drop-cons ps i p w ∙ ap (λ q. q ∷ drop (suc i) ps) (sym h)

by_default : (p : Param) (ps : List Param) (v : Value) (acc : Locals) → p.default ≡ Some v → fitted (p ∷ ps) [] [] acc ≡ fitted ps [] [] (bind_name p.name v acc)
by_default p ps v acc h = rw h refl

missing : (p : Param) (ps : List Param) (acc : Locals) → p.default ≡ None → fitted (p ∷ ps) [] [] acc ≡ None
missing p ps acc h = rw h refl

some_same : {v w : Value} → Some v ≡ Some w → v ≡ w
some_same h = cc

given_by : (ps : List Param) (vs : List Value) (i : ℕ) (p : Param) (v : Value) (acc : Locals) → Ahead vs i → drop i ps ≡ p ∷ drop (suc i) ps → Some v ≡ value_given p vs i
    → fitted (drop i ps) (drop i vs) [] acc ≡ fitted (drop (suc i) ps) (drop (suc i) vs) [] (bind_name p.name v acc)
given_by ps vs i p v acc (here w e d) n h =
    let s : v ≡ w = some_same (h ∙ ap (λ o. argument_or o p.default) e) in rw (n, d, s) refl
given_by ps vs i p v acc (over e d f) n h =
    let s : p.default ≡ Some v = sym (h ∙ ap (λ o. argument_or o p.default) e) in rw (n, d, f) (by_default p (drop (suc i) ps) v acc s)

missing_by : (ps : List Param) (vs : List Value) (i : ℕ) (p : Param) (acc : Locals) → Ahead vs i → drop i ps ≡ p ∷ drop (suc i) ps → None ≡ value_given p vs i → fitted (drop i ps) (drop i vs) [] acc ≡ None
missing_by ps vs i p acc (here w e d) n h = absurd (let s : None ≡ Some w = h ∙ ap (λ o. argument_or o p.default) e in cc)
missing_by ps vs i p acc (over e d f) n h =
    let s : p.default ≡ None = sym (h ∙ ap (λ o. argument_or o p.default) e) in rw (n, d) (missing p (drop (suc i) ps) acc s)

-- a parameter has its value
pub fits_given : (ps : List Param) (vs : List Value) (i : ℕ) (p : Param) (v : Value) (acc : Locals) → i < length ps → p ≡ get_or ps i p → Some v ≡ value_given p vs i
    → fitted (drop i ps) (drop i vs) [] acc ≡ fitted (drop (i + 1) ps) (drop (i + 1) vs) [] (bind_name p.name v acc)
fits_given ps vs i p v acc w g h = rw add-one (given_by ps vs i p v acc (ahead vs i) (next_of ps i p w g) h)

-- one has none
pub fits_missing : (ps : List Param) (vs : List Value) (i : ℕ) (p : Param) (acc : Locals) → i < length ps → p ≡ get_or ps i p → None ≡ value_given p vs i → fitted (drop i ps) (drop i vs) [] acc ≡ None
fits_missing ps vs i p acc w g h = missing_by ps vs i p acc (ahead vs i) (next_of ps i p w g) h

-- behind the last parameter: no argument may be left
pub fits_over : (ps : List Param) (vs : List Value) (acc : Locals) → length ps < length vs → fitted (drop (length ps) ps) (drop (length ps) vs) [] acc ≡ None
fits_over ps [] acc h = absurd (omega arith)
fits_over ps (v ∷ vs) acc h = rw (drop_of_length-le ps (let e : length ps ≤ length ps = omega arith in e), drop-cons (v ∷ vs) (length ps) v h) refl

pub fits_all : (ps : List Param) (vs : List Value) (acc : Locals) → length vs ≤ length ps → fitted (drop (length ps) ps) (drop (length ps) vs) [] acc ≡ Some acc
fits_all ps vs acc h = rw (drop_of_length-le ps (let e : length ps ≤ length ps = omega arith in e), drop_of_length-le vs h) refl

pub fits_past : (ps : List Param) (vs : List Value) (i : ℕ) (acc : Locals) → length ps ≡ i → length ps < length vs → None ≡ fitted (drop i ps) (drop i vs) [] acc
fits_past ps vs i acc e h = subst (λ n. None ≡ fitted (drop n ps) (drop n vs) [] acc) e (sym (fits_over ps vs acc h))
