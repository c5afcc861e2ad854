-- Frames, from one on.
use Rattle.std.proofs.Common.{ℕ, zero, suc, ◌+◌, ◌<◌, ◌≤◌, ◌≡◌, ◌∙◌, List, [], ◌∷◌, length, map, drop, get_or, Some, None, sym, ap, refl, arith, add-one}
use Rattle.core_meaning.specs.py_world.declared.ended.Thrown.{Thrown}
use Rattle.core_meaning.specs.py_world.declared.trace.TraceFrame.{TraceFrame}
use Rattle.machine_state.specs.declared.frame.Frame.{Frame}
use Rattle.machine_state.specs.Frames.{handled_exception, outer_in, outer_of}
use Rattle.machine_state.specs.Handled.{FrameTells}

module _ {A : Type 0} (now : A → Frame) where
  drop_suc : (xs : List A) (i : ℕ) (x : A) → i < length xs → x ≡ get_or xs i x → drop i xs ≡ x ∷ drop (suc i) xs
  drop_suc [] i x w h = absurd (omega (arith, w))
  drop_suc (y ∷ xs) zero x w h = ap (λ (z : A). z ∷ xs) (sym h)
  drop_suc (y ∷ xs) (suc i) x w h = drop_suc xs i x (omega (arith, w)) h

  drop_at : (xs : List A) (i : ℕ) (x : A) → i < length xs → x ≡ get_or xs i x → drop i xs ≡ x ∷ drop (i + 1) xs
  drop_at xs i x w h = rw add-one (drop_suc xs i x w h)

  from_at : (xs : List A) (i : ℕ) (x : A) → i < length xs → x ≡ get_or xs i x → map now (drop i xs) ≡ now x ∷ map now (drop (i + 1) xs)
  from_at xs i x w h = ap (map now) (drop_at xs i x w h)

  drop_all : (xs : List A) (i : ℕ) → length xs ≤ i → drop i xs ≡ []
  drop_all [] zero h = refl
  drop_all [] (suc i) h = refl
  drop_all (x ∷ xs) zero h = absurd (omega (arith, h))
  drop_all (x ∷ xs) (suc i) h = drop_all xs i (omega (arith, h))

  -- the frame at a place tells of an exception
  pub told_here : (xs : List A) (i : ℕ) (x : A) (t : Thrown) → i < length xs → x ≡ get_or xs i x → FrameTells (Some t) (now x) → handled_exception (map now (drop i xs)) ≡ Some t
  told_here xs i x t w h tells = ap (λ (fs : List Frame). handled_exception fs) (from_at xs i x w h) ∙ tells (handled_exception (map now (drop (i + 1) xs)))

  -- or of none
  pub told_below : (xs : List A) (i : ℕ) (x : A) → i < length xs → x ≡ get_or xs i x → FrameTells None (now x) → handled_exception (map now (drop (i + 1) xs)) ≡ handled_exception (map now (drop i xs))
  told_below xs i x w h tells = sym (ap (λ (fs : List Frame). handled_exception fs) (from_at xs i x w h) ∙ tells (handled_exception (map now (drop (i + 1) xs))))

  pub told_nowhere : (xs : List A) (i : ℕ) → length xs ≤ i → handled_exception (map now (drop i xs)) ≡ None
  told_nowhere xs i h = ap (λ (ys : List A). handled_exception (map now ys)) (drop_all xs i h)

  -- the open calls from a place on
  pub calls_none : (xs : List A) → [] ≡ outer_of (map now (drop (length xs) xs))
  calls_none xs = sym (ap (λ (ys : List A). outer_of (map now ys)) (drop_all xs (length xs) (omega arith)))

  pub calls_at : (xs : List A) (i : ℕ) (x : A) (calls more : List TraceFrame) → i < length xs → x ≡ get_or xs i x → calls ≡ outer_of (map now (drop (i + 1) xs)) → more ≡ outer_in (now x) calls → more ≡ outer_of (map now (drop i xs))
  calls_at xs i x calls more w h e is = is ∙ (ap (outer_in (now x)) e ∙ sym (ap (λ (fs : List Frame). outer_of fs) (from_at xs i x w h)))
