-- The place of a name among those of a call.
use Rattle.std.proofs.Common.{◌≡◌, ◌<◌, ◌≤◌, ◌+◌, ◌∙◌, ℕ, zero, suc, List, [], ◌∷◌, ◌++◌, length, get_or, Some, None, true, false, refl, sym, ap, subst, arith, add-one}
use Rattle.std.specs.Prelude.{Bool, is_some, slice_set, take, drop}
use Rattle.std.specs.Cmp.Lexicographic.{same_text}
use Rattle.py_values.specs.declared.value.Value.{Value}
use Rattle.py_values.specs.Names.{bind_name, find_name, unbind_name, name_eq}
use Rattle.machine_state.specs.Found.{OnTrue}
use Rattle.machine_state.specs.LocalNames.{Bindings, IsAt, IsPlaceOf, NoneBefore}

module _ (name : List ℕ) where
  none_suc : (es : Bindings) (i : ℕ) (e : List ℕ × Value) → i < length es → e ≡ get_or es i e → name_eq name e.0 ≡ false → NoneBefore name i es → NoneBefore name (suc i) es
  none_suc [] i e w h f n = tt
  none_suc (x ∷ xs) zero e w h f n = (ap (λ (y : List ℕ × Value). name_eq name y.0) (sym h) ∙ f, tt)
  none_suc (x ∷ xs) (suc i) e w h f n = (n.0, none_suc xs i e (omega arith) h f n.1)

  pub none_more : (es : Bindings) (i : ℕ) (e : List ℕ × Value) → i < length es → e ≡ get_or es i e → name_eq name e.0 ≡ false → NoneBefore name i es → NoneBefore name (i + 1) es
  none_more es i e w h f n = rw add-one (none_suc es i e w h f n)

  find_here : (es : Bindings) (i : ℕ) (e : List ℕ × Value) → i < length es → name_eq name e.0 ≡ true → NoneBefore name i es → e ≡ get_or es i e → find_name name es ≡ Some e.1
  find_here [] i e w t n h = absurd (omega arith)
  find_here (x ∷ xs) zero e w t n h =
      let u : name_eq name x.0 ≡ true = ap (λ (y : List ℕ × Value). name_eq name y.0) (sym h) ∙ t in
      rw u (ap (λ (y : List ℕ × Value). Some y.1) (sym h))
  find_here (x ∷ xs) (suc i) e w t n h = rw n.0 (find_here xs i e (omega arith) t n.1 h)

  bind_here : (v : Value) (es : Bindings) (i : ℕ) (e : List ℕ × Value) → i < length es → name_eq name e.0 ≡ true → NoneBefore name i es → e ≡ get_or es i e → bind_name name v es ≡ slice_set es i (e.0, v)
  bind_here v [] i e w t n h = absurd (omega arith)
  bind_here v (x ∷ xs) zero e w t n h =
      let u : name_eq name x.0 ≡ true = ap (λ (y : List ℕ × Value). name_eq name y.0) (sym h) ∙ t in
      rw u (ap (λ (y : List ℕ × Value). (y.0, v) ∷ xs) (sym h))
  bind_here v (x ∷ xs) (suc i) e w t n h = rw n.0 (ap (λ (ys : Bindings). x ∷ ys) (bind_here v xs i e (omega arith) t n.1 h))

  unbind_here : (es : Bindings) (i : ℕ) (e : List ℕ × Value) → i < length es → name_eq name e.0 ≡ true → NoneBefore name i es → e ≡ get_or es i e → unbind_name name es ≡ take i es ++ drop (suc i) es
  unbind_here [] i e w t n h = absurd (omega arith)
  unbind_here (x ∷ xs) zero e w t n h =
      let u : name_eq name x.0 ≡ true = ap (λ (y : List ℕ × Value). name_eq name y.0) (sym h) ∙ t in
      rw u refl
  unbind_here (x ∷ xs) (suc i) e w t n h = rw n.0 (ap (λ (ys : Bindings). x ∷ ys) (unbind_here xs i e (omega arith) t n.1 h))

  same_at : (es : Bindings) (i : ℕ) (e d : List ℕ × Value) → i < length es → e ≡ get_or es i e → d ≡ get_or es i d → e ≡ d
  same_at [] i e d w h g = absurd (omega arith)
  same_at (x ∷ xs) zero e d w h g = h ∙ sym g
  same_at (x ∷ xs) (suc i) e d w h g = same_at xs i e d (omega arith) h g

  -- a name stands at this place
  pub place_here : (es : Bindings) (i : ℕ) (e : List ℕ × Value) → i < length es → e ≡ get_or es i e → name_eq name e.0 ≡ true → NoneBefore name i es → IsPlaceOf name es (Some i)
  place_here es i e w h t n = (
    w,
    (
      λ d g.
          let u : name_eq name d.0 ≡ true = subst (λ (y : List ℕ × Value). name_eq name y.0 ≡ true) (same_at es i e d w h g) t in
          (find_here es i d w u n g, λ v. bind_here v es i d w u n g),
      unbind_here es i e w t n h,
    ),
  )

  find_nowhere : (es : Bindings) → NoneBefore name (length es) es → find_name name es ≡ None
  find_nowhere [] n = refl
  find_nowhere (x ∷ xs) n = rw n.0 (find_nowhere xs n.1)

  bind_last : (v : Value) (es : Bindings) → NoneBefore name (length es) es → bind_name name v es ≡ es ++ (name, v) ∷ []
  bind_last v [] n = refl
  bind_last v (x ∷ xs) n = rw n.0 (ap (λ (ys : Bindings). x ∷ ys) (bind_last v xs n.1))

  unbind_none : (es : Bindings) → NoneBefore name (length es) es → unbind_name name es ≡ es
  unbind_none [] n = refl
  unbind_none (x ∷ xs) n = rw n.0 (ap (λ (ys : Bindings). x ∷ ys) (unbind_none xs n.1))

  -- a name stands nowhere
  pub place_nowhere : (es : Bindings) (i : ℕ) → i ≡ length es → NoneBefore name i es → IsPlaceOf name es None
  place_nowhere es i e n =
      let m : NoneBefore name (length es) es = subst (λ (j : ℕ). NoneBefore name j es) e n in
      (find_nowhere es m, (λ v. bind_last v es m, unbind_none es m))

-- A NAME BEHIND THE FIRST ONES, of which it is none
module _ (name : List ℕ) where
  -- the first names are all, where there are fewer
  pub none_behind : (es : Bindings) (i at : ℕ) → length es ≤ i → NoneBefore name i es → NoneBefore name at es
  none_behind es i zero past n = tt
  none_behind [] i (suc at) past n = tt
  none_behind (e ∷ es) zero (suc at) past n = absurd (omega arith)
  none_behind (e ∷ es) (suc i) (suc at) past n = (n.0, none_behind es i at (omega arith) n.1)

  pub none_fewer : (es : Bindings) (i at : ℕ) → at ≤ i → NoneBefore name i es → NoneBefore name at es
  none_fewer es i zero few n = tt
  none_fewer [] i (suc at) few n = tt
  none_fewer (e ∷ es) zero (suc at) few n = absurd (omega arith)
  none_fewer (e ∷ es) (suc i) (suc at) few n = (n.0, none_fewer es i at (omega arith) n.1)

  -- the first names have it, where it stands at one of their places
  pub found_before : (es : Bindings) (at i : ℕ) (e : List ℕ × Value) → i < length es → i < at → e ≡ get_or es i e → name_eq name e.0 ≡ true → NoneBefore name i es → is_some (find_name name (take at es)) ≡ true
  found_before es zero i e w u h t n = absurd (omega arith)
  found_before [] (suc at) i e w u h t n = absurd (omega arith)
  found_before (x ∷ xs) (suc at) zero e w u h t n = let same : name_eq name x.0 ≡ true = ap (λ (y : List ℕ × Value). name_eq name y.0) (sym h) ∙ t in rw same refl
  found_before (x ∷ xs) (suc at) (suc i) e w u h t n = rw n.0 (found_before xs at i e (omega arith) (omega arith) h t n.1)

  bind_behind : (v : Value) (es : Bindings) (at : ℕ) → NoneBefore name at es → bind_name name v (take at es) ≡ take at es ++ (name, v) ∷ []
  bind_behind v es zero n = refl
  bind_behind v [] (suc at) n = refl
  bind_behind v (e ∷ es) (suc at) n = rw n.0 (ap (λ (ys : Bindings). e ∷ ys) (bind_behind v es at n.1))

  -- it stands where the text there is the same
  pub at_place : (es : Bindings) (at : ℕ) (e : List ℕ × Value) (b : Bool) → at < length es → e ≡ get_or es at e → b ≡ name_eq name e.0 → OnTrue b (IsAt name at es)
  at_place es at e true w h t = (w, λ d g. ap (λ (y : List ℕ × Value). y.0) (same_at name es at d e w g h) ∙ sym (same_text name e.0 t))
  at_place es at e false w h t = tt

  -- its value is put in the place of the one that is there
  set_at : (v : Value) (es : Bindings) (at : ℕ) (x : List ℕ) → at < length es → x ≡ name → take (suc at) (slice_set es at (x, v)) ≡ take at es ++ (name, v) ∷ []
  set_at v [] at x w same = absurd (omega arith)
  set_at v (e ∷ es) zero x w same = ap (λ (y : List ℕ). (y, v) ∷ []) same
  set_at v (e ∷ es) (suc at) x w same = ap (λ (ys : Bindings). e ∷ ys) (set_at v es at x (omega arith) same)

  pub rebound_there : (v : Value) (es : Bindings) (at : ℕ) (e : List ℕ × Value) → IsAt name at es → e ≡ get_or es at e → NoneBefore name at es → take (at + 1) (slice_set es at (e.0, v)) ≡ bind_name name v (take at es)
  rebound_there v es at e is h n = rw add-one (set_at v es at e.0 is.0 (is.1 e h) ∙ sym (bind_behind v es at n))

  -- it is put behind them
  taken_all : (v : Value) (es : Bindings) (at : ℕ) → take (suc at) (take at es ++ (name, v) ∷ []) ≡ take at es ++ (name, v) ∷ []
  taken_all v es zero = refl
  taken_all v [] (suc at) = refl
  taken_all v (e ∷ es) (suc at) = ap (λ (ys : Bindings). e ∷ ys) (taken_all v es at)

  pub rebound_last : (v : Value) (es : Bindings) (at : ℕ) (now : Bindings) → NoneBefore name at es → now ≡ take at es ++ (name, v) ∷ [] → take (at + 1) now ≡ bind_name name v (take at es)
  rebound_last v es at now n is = rw (add-one, is) (taken_all v es at ∙ sym (bind_behind v es at n))
