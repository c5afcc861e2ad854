-- Parameters with arguments by position and by name, one after another.
use Rattle.std.proofs.Common.{◌≡◌, ◌<◌, ◌≤◌, ◌+◌, ◌∙◌, ℕ, zero, suc, List, [], ◌∷◌, drop, length, get_or, Option, Some, None, true, false, refl, sym, ap, subst, arith, add-one}
use Rattle.std.proofs.Math.ListN.{drop_of_length-le}
use Rattle.std.proofs.Math.Seq.{drop-cons}
use Rattle.std.specs.Prelude.{slice_get}
use Rattle.py_values.specs.declared.rows.Param.{Param}
use Rattle.py_values.specs.declared.value.Value.{Value}
use Rattle.py_values.specs.Names.{bind_name, find_name}
use Rattle.machine_state.specs.py_world.World.{Locals}
use Rattle.machine_state.specs.py_world.Arguments.{fitted}
use Rattle.machine_state.specs.py_world.Calls.{nothing_named}
use Rattle.machine_arguments.specs.Given.{given_at, named_at}

-- the first of what is left of the arguments by position: that at a place, or none
data Ahead (vs : List Value) (i : ℕ) : Type 0 where
  here : (v : Value) → slice_get vs i ≡ Some v → drop i vs ≡ v ∷ drop (suc i) vs → Ahead vs i
  over : slice_get vs i ≡ None → drop i vs ≡ [] → drop (suc i) vs ≡ [] → Ahead vs i

ahead_more : {v : Value} {vs : List Value} {i : ℕ} → Ahead vs i → Ahead (v ∷ vs) (suc i)
ahead_more (here w e d) = here w e d
ahead_more (over e d f) = over e d f

ahead : (vs : List Value) (i : ℕ) → Ahead vs i
ahead [] zero = over refl refl refl
ahead [] (suc i) = over refl refl refl
ahead (v ∷ vs) zero = here v refl refl
ahead (v ∷ vs) (suc i) = ahead_more (ahead vs i)

next_of : (ps : List Param) (i : ℕ) (p : Param) → i < length ps → p ≡ get_or ps i p → drop i ps ≡ p ∷ drop (suc i) ps
next_of ps i p w h = drop-cons ps i p w ∙ ap (λ q. q ∷ drop (suc i) ps) (sym h)

some_same : {v w : Value} → Some v ≡ Some w → v ≡ w
some_same h = cc

-- by name, or by its default
by_name : (f : Option Value) (p : Param) (ps : List Param) (named left : Locals) (v : Value) (acc : Locals) → find_name p.name named ≡ f → (Some v, left) ≡ named_at f p named
    → fitted (p ∷ ps) [] named acc ≡ fitted ps [] left (bind_name p.name v acc)
by_name (Some w) p ps named left v acc h g =
    let r : v ≡ w = some_same (ap (λ (t : Option Value × Locals). t.0) g) in
    let e : left ≡ (named_at (Some w) p named).1 = ap (λ (t : Option Value × Locals). t.1) g in
    rw (h, r, e) refl
by_name None p ps named left v acc h g =
    let s : p.default ≡ Some v = sym (ap (λ (t : Option Value × Locals). t.0) g) in
    let e : left ≡ named = ap (λ (t : Option Value × Locals). t.1) g in
    rw (h, s, e) refl

without : (f : Option Value) (p : Param) (ps : List Param) (named left : Locals) (acc : Locals) → find_name p.name named ≡ f → (None, left) ≡ named_at f p named → fitted (p ∷ ps) [] named acc ≡ None
without (Some w) p ps named left acc h g = absurd (let s : None ≡ Some w = ap (λ (t : Option Value × Locals). t.0) g in cc)
without None p ps named left acc h g =
    let s : p.default ≡ None = sym (ap (λ (t : Option Value × Locals). t.0) g) in
    rw (h, s) refl

module _ (ps : List Param) (vs : List Value) (named left : Locals) (i : ℕ) (p : Param) (acc : Locals) where
  given_by : (v : Value) → Ahead vs i → drop i ps ≡ p ∷ drop (suc i) ps → (Some v, left) ≡ given_at p (slice_get vs i) named
      → fitted (drop i ps) (drop i vs) named acc ≡ fitted (drop (suc i) ps) (drop (suc i) vs) left (bind_name p.name v acc)
  given_by v (here w e d) n h =
      let g : (Some v, left) ≡ (Some w, named) = h ∙ ap (λ (o : Option Value). given_at p o named) e in
      let r : v ≡ w = some_same (ap (λ (t : Option Value × Locals). t.0) g) in
      let l : left ≡ named = ap (λ (t : Option Value × Locals). t.1) g in
      rw (n, d, r, l) refl
  given_by v (over e d f) n h =
      rw (n, d, f) (by_name (find_name p.name named) p (drop (suc i) ps) named left v acc refl (h ∙ ap (λ (o : Option Value). given_at p o named) e))

  missing_by : Ahead vs i → drop i ps ≡ p ∷ drop (suc i) ps → (None, left) ≡ given_at p (slice_get vs i) named → fitted (drop i ps) (drop i vs) named acc ≡ None
  missing_by (here w e d) n h = absurd (let s : None ≡ Some w = ap (λ (t : Option Value × Locals). t.0) (h ∙ ap (λ (o : Option Value). given_at p o named) e) in cc)
  missing_by (over e d f) n h =
      rw (n, d) (without (find_name p.name named) p (drop (suc i) ps) named left acc refl (h ∙ ap (λ (o : Option Value). given_at p o named) e))

  -- a parameter has its value
  pub fits_given : (v : Value) → i < length ps → p ≡ get_or ps i p → (Some v, left) ≡ given_at p (slice_get vs i) named
      → fitted (drop i ps) (drop i vs) named acc ≡ fitted (drop (i + 1) ps) (drop (i + 1) vs) left (bind_name p.name v acc)
  fits_given v w g h = rw add-one (given_by v (ahead vs i) (next_of ps i p w g) h)

  -- one has none
  pub fits_missing : i < length ps → p ≡ get_or ps i p → (None, left) ≡ given_at p (slice_get vs i) named → fitted (drop i ps) (drop i vs) named acc ≡ None
  fits_missing w g h = missing_by (ahead vs i) (next_of ps i p w g) h

-- behind the last parameter no argument may be left
over_all : (ps : List Param) (vs : List Value) (named acc : Locals) → length ps < length vs → fitted (drop (length ps) ps) (drop (length ps) vs) named acc ≡ None
over_all ps [] named acc h = absurd (omega arith)
over_all ps (v ∷ vs) named acc h = rw (drop_of_length-le ps (let e : length ps ≤ length ps = omega arith in e), drop-cons (v ∷ vs) (length ps) v h) refl

named_all : (named acc : Locals) → nothing_named named ≡ false → fitted [] [] named acc ≡ None
named_all [] acc h = absurd cc
named_all (n ∷ named) acc h = refl

none_all : (named acc : Locals) → nothing_named named ≡ true → fitted [] [] named acc ≡ Some acc
none_all [] acc h = refl
none_all (n ∷ named) acc h = absurd cc

module _ (ps : List Param) (vs : List Value) (i : ℕ) (named acc : Locals) where
  ends_at : (P : List Param → List Value → Type 0) → length ps ≡ i → length vs ≤ length ps → P [] [] → P (drop i ps) (drop i vs)
  ends_at P e h p =
      let a : drop i ps ≡ [] = drop_of_length-le ps (omega arith) in
      let b : drop i vs ≡ [] = drop_of_length-le vs (omega arith) in
      rw (a, b) p

  -- an argument by position is left
  pub fits_past : length ps ≡ i → length ps < length vs → None ≡ fitted (drop i ps) (drop i vs) named acc
  fits_past e h = subst (λ (n : ℕ). None ≡ fitted (drop n ps) (drop n vs) named acc) e (sym (over_all ps vs named acc h))

  -- one by name is left
  pub fits_named : length ps ≡ i → length vs ≤ length ps → nothing_named named ≡ false → None ≡ fitted (drop i ps) (drop i vs) named acc
  fits_named e h n = ends_at (λ qs ws. None ≡ fitted qs ws named acc) e h (sym (named_all named acc n))

  -- none is left
  pub fits_all : length ps ≡ i → length vs ≤ length ps → nothing_named named ≡ true → Some acc ≡ fitted (drop i ps) (drop i vs) named acc
  fits_all e h n = ends_at (λ qs ws. Some acc ≡ fitted qs ws named acc) e h (sym (none_all named acc n))

-- A PARAMETER FOR WHICH THERE IS NO ARGUMENT: its default, where it has one
module _ (ps : List Param) (i : ℕ) (p : Param) (acc : Locals) where
  pub fits_default : (v : Value) → i < length ps → p ≡ get_or ps i p → p.default ≡ Some v → fitted (drop i ps) [] [] acc ≡ fitted (drop (i + 1) ps) [] [] (bind_name p.name v acc)
  fits_default v w h d = rw (add-one, next_of ps i p w h, d) refl

  pub fits_undefaulted : i < length ps → p ≡ get_or ps i p → p.default ≡ None → fitted (drop i ps) [] [] acc ≡ None
  fits_undefaulted w h d = rw (next_of ps i p w h, d) refl

-- no parameter is left
pub fits_bare : (ps : List Param) (i : ℕ) (acc : Locals) → length ps ≤ i → fitted (drop i ps) [] [] acc ≡ Some acc
fits_bare ps i acc past = rw (drop_of_length-le ps past) refl
